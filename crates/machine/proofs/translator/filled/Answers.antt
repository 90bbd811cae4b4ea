use mathlib.Core.Path.{fun_ext}
use Rattle.std.proofs.Common.{get_or, arith}
use Rattle.machine.specs.Working.{unsigned}
use Rattle.machine.proofs.Growing.{built_more, room_of}
use Rattle.machine.proofs.translator.filled.Goals as goal

pub put_line-requires : goal.put_line-requires
put_line-requires c =
    let l = c.lines-line-items.ensures in
    (omega arith, (l.sheet c.loop-k.k (omega arith), room_of _ _ _ c.loop-k.invariant))

pub loop-k-preserved : goal.loop-k-preserved
loop-k-preserved c =
    let l = c.lines-line-items.ensures in
    let lines = c.lines-line-items.result.now in
    let before = rw (← l.are) at c.loop-k.invariant in
    let signs = rw (← l.are) at (c.signs_in-signs.ensures c.loop-k.k) in
    rw (c.put_line.ensures, ← l.are) (built_more lines c.loop-k.k c.loop-k.work (get_or c.signs_in-signs.result c.loop-k.k unsigned) l.sheet (omega arith) l.few before (fun_ext signs))

use Rattle.std.proofs.Common.{length, ap, ◌∙◌, arith, length-set}
use Rattle.meaning.proofs.Filling.{filled_more, filled_all, read_as}
use Rattle.meaning.proofs.Sweeps.{before_next}
use Rattle.meaning.specs.Cells.{column}
use Rattle.meaning.proofs.backward.fill_previous.Goals as goal

pub put-requires : goal.put-requires
put-requires g c = omega (arith, c.requires.column.room c.loop-t.t c.args.line (omega arith) (omega arith))

pub read-held-requires : goal.read-held-requires
read-held-requires g c = omega (arith, c.requires.column.room c.loop-t.t c.args.left (omega arith) (omega arith), simp length-set at (ap length c.put.ensures))

pub loop-t-preserved : goal.loop-t-preserved
loop-t-preserved g c =
    let more = filled_more (omega arith) (omega arith) (omega (arith, c.requires.column.room c.loop-t.t c.args.line (omega arith) (omega arith))) c.loop-t.invariant.0 c.put.ensures c.loop-t.invariant.1 in
    (more, λ d. read_as (omega arith) more c.args.left c.loop-t.t (omega arith) c.read-held.result c.read-held.ensures d ∙ before_next g.T.Truth.kind (column g.T.Truth.means c.args.cells.now c.args.grid.width c.args.left d) (g.T.Truth.means c.args.start) c.loop-t.t)

pub returns : goal.returns
returns g c = filled_all c.loop-t.auto.t-end c.loop-t-test.false c.loop-t.invariant.0

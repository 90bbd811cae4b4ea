use Rattle.std.proofs.Common.{arith}
use Rattle.meaning.proofs.Filling.{filled_more, filled_all, row_kept}
use Rattle.meaning.proofs.pointwise.fill.Goals as goal

pub loop-t-preserved : goal.loop-t-preserved
loop-t-preserved g c y gives =
    let filled = c.loop-t.invariant y gives in
    filled_more (omega arith) (omega arith) (omega (arith, c.requires.column.room c.loop-t.t c.args.line (omega arith) (omega arith))) filled c.put.ensures
    (λ d. gives d c.lower.result c.loop-t.t c.value-cell.result (row_kept (omega arith) filled c.lower.ensures) (omega arith) c.value-cell.ensures)

pub returns : goal.returns
returns g c y gives = filled_all c.loop-t.auto.t-end c.loop-t-test.false (c.loop-t.invariant y gives)

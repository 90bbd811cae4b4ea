use Rattle.std.proofs.Common.{◌<◌, sym, ap, ◌∙◌, subst, arith}
use Rattle.meaning.proofs.Filling.{filled_more, filled_all, read_as}
use Rattle.meaning.proofs.Sweeps.{following_below}
use Rattle.meaning.specs.Cells.{column}
use Rattle.meaning.proofs.pointwise.fill_next.Goals as goal

pub read-value-requires : goal.read-value-requires
read-value-requires g c =
    let h : c.following.result < c.args.grid.samples = subst (λ n. n < c.args.grid.samples) (sym c.following.ensures) (following_below _ _ _ (omega arith)) in
    omega (arith, c.requires.column.room c.following.result c.args.left h (omega arith))

pub put-requires : goal.put-requires
put-requires g c = omega (arith, c.requires.column.room c.loop-t.t c.args.line (omega arith) (omega arith))

pub loop-t-preserved : goal.loop-t-preserved
loop-t-preserved g c =
    filled_more (omega arith) (omega arith) (omega (arith, c.requires.column.room c.loop-t.t c.args.line (omega arith) (omega arith))) c.loop-t.invariant c.put.ensures
    (λ d. read_as (omega arith) c.loop-t.invariant c.args.left c.following.result (omega arith) c.read-value.result c.read-value.ensures d ∙ ap (column g.T.Truth.means c.args.cells.now c.args.grid.width c.args.left d) c.following.ensures)

pub returns : goal.returns
returns g c = filled_all c.loop-t.auto.t-end c.loop-t-test.false c.loop-t.invariant

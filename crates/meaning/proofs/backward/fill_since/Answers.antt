use Rattle.std.proofs.Common.{◌≡◌, suc, ◌∙◌, ap₂, arith}
use Rattle.meaning.proofs.Filling.{filled_more, filled_all, read_column}
use Rattle.meaning.proofs.Sweeps.{carried_next}
use Rattle.meaning.specs.Cells.{column}
use Rattle.meaning.specs.Columns.{carried}
use Rattle.meaning.proofs.backward.fill_since.Goals as goal

pub carry-value-requires : goal.carry-value-requires
carry-value-requires g c =
    record {
      left = omega (arith, c.requires.column.room c.loop-t.t c.args.left (omega arith) (omega arith));
      right = omega (arith, c.requires.column.room c.loop-t.t c.args.right (omega arith) (omega arith));
    }

pub put-requires : goal.put-requires
put-requires g c = omega (arith, c.requires.column.room c.loop-t.t c.args.line (omega arith) (omega arith))

pub loop-t-preserved : goal.loop-t-preserved
loop-t-preserved g c =
    let K = g.T.Truth in
    let left = λ (d : g.row.T.Denot). column K.means c.args.cells.now c.args.grid.width c.args.left d in
    let right = λ (d : g.row.T.Denot). column K.means c.args.cells.now c.args.grid.width c.args.right d in
    let value : (d : g.row.T.Denot) → K.means c.carry-value.result ≡ carried K.kind (left d) (right d) (K.means c.args.start) (suc c.loop-t.t) =
    λ d. c.carry-value.ensures d
    ∙ ap₂ K.kind.Or (read_column (omega arith) c.loop-t.invariant.0 c.args.right c.loop-t.t (omega arith) d)
    (ap₂ K.kind.And (read_column (omega arith) c.loop-t.invariant.0 c.args.left c.loop-t.t (omega arith) d) (c.loop-t.invariant.1 d)) in (
      filled_more (omega arith) (omega arith) (omega (arith, c.requires.column.room c.loop-t.t c.args.line (omega arith) (omega arith))) c.loop-t.invariant.0 c.put.ensures value,
      λ d. value d ∙ carried_next K.kind (left d) (right d) (K.means c.args.start) c.loop-t.t,
    )

pub returns : goal.returns
returns g c = filled_all c.loop-t.auto.t-end c.loop-t-test.false c.loop-t.invariant.0

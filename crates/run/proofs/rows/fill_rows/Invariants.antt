use Rattle.run.specs.Packing.{RowsPacked}
use Rattle.run.proofs.rows.fill_rows.Given as goal

abbrev pub invariant-loop-t : goal.invariant-loop-t
invariant-loop-t g l = RowsPacked g.T.Truth.kind g.T.Truth.means l.lines l.cells l.initial.rows l.rows l.t

use Rattle.std.proofs.Common.{◌≡◌, ◌-◌, ◌≤◌}
use Rattle.meaning.specs.Cells.{column}
use Rattle.meaning.specs.Judging.{pass}
use Rattle.meaning.proofs.forward.sweep.Given as goal

abbrev pub invariant-loop-t : goal.invariant-loop-t
invariant-loop-t g l =
    let K = g.T.Truth in
    (l.grid.samples - l.grid.cycle ≤ l.t) × ((d : g.row.T.Denot) → K.means l.held ≡ pass K.kind (column K.means l.cells l.grid.width l.left d) (column K.means l.cells l.grid.width l.right d) l.t (l.grid.samples - l.t) (K.means l.initial.held))

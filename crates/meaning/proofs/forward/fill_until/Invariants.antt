use Rattle.std.proofs.Common.{◌≡◌, ◌-◌}
use Rattle.meaning.specs.Cells.{column, Fills}
use Rattle.meaning.specs.Judging.{pass}
use Rattle.meaning.proofs.forward.fill_until.Given as goal

abbrev pub invariant-loop-t : goal.invariant-loop-t
invariant-loop-t g l =
    let K = g.T.Truth in
    Fills K.means l.grid.width l.line l.initial.cells (λ d t. pass K.kind (column K.means l.initial.cells l.grid.width l.left d) (column K.means l.initial.cells l.grid.width l.right d) t (l.grid.samples - t) (K.means l.initial.held)) l.t l.grid.samples l.cells
    × ((d : g.row.T.Denot) → K.means l.held ≡ pass K.kind (column K.means l.initial.cells l.grid.width l.left d) (column K.means l.initial.cells l.grid.width l.right d) l.t (l.grid.samples - l.t) (K.means l.initial.held))

use Rattle.std.proofs.Common.{◌≡◌}
use Rattle.meaning.specs.Cells.{column, Fills}
use Rattle.meaning.specs.Sheet.{before}
use Rattle.meaning.proofs.backward.fill_previous.Given as goal

abbrev pub invariant-loop-t : goal.invariant-loop-t
invariant-loop-t g l =
    let K = g.T.Truth in
    Fills K.means l.grid.width l.line l.initial.cells (λ d t. before K.kind (K.means l.initial.held) (column K.means l.initial.cells l.grid.width l.left d) t) 0 l.t l.cells
    × ((d : g.row.T.Denot) → K.means l.held ≡ before K.kind (K.means l.initial.held) (column K.means l.initial.cells l.grid.width l.left d) l.t)

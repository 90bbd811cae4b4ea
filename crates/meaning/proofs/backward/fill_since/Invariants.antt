use Rattle.std.proofs.Common.{◌≡◌, suc}
use Rattle.meaning.specs.Cells.{column, Fills}
use Rattle.meaning.specs.Columns.{carried}
use Rattle.meaning.proofs.backward.fill_since.Given as goal

abbrev pub invariant-loop-t : goal.invariant-loop-t
invariant-loop-t g l =
    let K = g.T.Truth in
    Fills K.means l.grid.width l.line l.initial.cells (λ d t. carried K.kind (column K.means l.initial.cells l.grid.width l.left d) (column K.means l.initial.cells l.grid.width l.right d) (K.means l.initial.held) (suc t)) 0 l.t l.cells
    × ((d : g.row.T.Denot) → K.means l.held ≡ carried K.kind (column K.means l.initial.cells l.grid.width l.left d) (column K.means l.initial.cells l.grid.width l.right d) (K.means l.initial.held) l.t)

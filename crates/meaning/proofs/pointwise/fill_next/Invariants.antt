use Rattle.std.proofs.Common.{◌-◌}
use Rattle.meaning.specs.Cells.{column, Fills}
use Rattle.meaning.specs.Columns.{following}
use Rattle.meaning.proofs.pointwise.fill_next.Given as goal

abbrev pub invariant-loop-t : goal.invariant-loop-t
invariant-loop-t g l =
    let K = g.T.Truth in
    Fills K.means l.grid.width l.line l.initial.cells (λ d t. column K.means l.initial.cells l.grid.width l.left d (following (l.grid.samples - l.grid.cycle) l.grid.samples t)) 0 l.t l.cells

use Rattle.std.proofs.Common.{◌≡◌, ℕ, ◌<◌}
use Rattle.meaning.specs.Cells.{Fills, IsRow}
use Rattle.meaning.proofs.pointwise.fill.Given as goal

abbrev pub invariant-loop-t : goal.invariant-loop-t
invariant-loop-t g l =
    (y : g.row.T.Denot → ℕ → g.T.Truth.kind.Value)
    → ((d : g.row.T.Denot) (row : _) (t : ℕ) (r : g.row.T.Denot) → IsRow l.grid.width l.line t l.initial.cells row.now → t < l.grid.samples → goal.F-post g l.value row t r → g.T.Truth.means r ≡ y d t)
    → Fills g.T.Truth.means l.grid.width l.line l.initial.cells y 0 l.t l.cells

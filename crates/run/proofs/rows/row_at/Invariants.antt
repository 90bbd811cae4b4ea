use Rattle.std.proofs.Common.{◌≡◌, ◌≤◌}
use Rattle.run.specs.Packing.{Packed, names}
use Rattle.run.proofs.rows.row_at.Given as goal

abbrev pub invariant-loop-k : goal.invariant-loop-k
invariant-loop-k g l =
    Packed g.T.Truth.kind g.T.Truth.means l.lines l.cells l.k l.sample l.row
    × (l.name ≡ names l.lines l.k)
    × (l.name ≤ l.k)

use Rattle.std.proofs.Common.{◌≡◌, ℕ, ◌-◌, ◌*◌, ◌≤◌, length, get_or}
use Rattle.meaning.proofs.Rows.{Columns}
use Rattle.sheet.specs.Table.{line, pasts}
use Rattle.meaning.proofs.Deep.{Deep, Reach, Steady}
use Rattle.meaning.proofs.evaluator.judge_lines.Given as goal

abbrev pub invariant-loop-k : goal.invariant-loop-k
invariant-loop-k g l =
    let w = g.R.Recording.word l.recording in
    Columns g.R.Truth.Truth.kind g.R.Truth.Truth.means l.lines w l.samples l.k l.cells
    × ((i : ℕ) → length l.lines * l.extent.samples ≤ i → (d : g.row.R-Truth.Denot) → get_or l.cells i d ≡ get_or l.initial.cells i d)
    × Reach w l.samples l.deepest
    × Deep g.R.Truth.Truth.kind g.R.Truth.Truth.means l.lines w l.depths l.deepest l.k

abbrev pub invariant-loop-samples : goal.invariant-loop-samples
invariant-loop-samples g l =
    let w = g.R.Recording.word l.recording in
    Columns g.R.Truth.Truth.kind g.R.Truth.Truth.means l.lines w l.samples (length l.lines) l.cells
    × ((i : ℕ) → length l.lines * l.extent.samples ≤ i → (d : g.row.R-Truth.Denot) → get_or l.cells i d ≡ get_or l.initial.cells i d)
    × Steady g.R.Truth.Truth.kind g.R.Truth.Truth.means l.lines w (l.samples - w.cycle) (length l.lines)
    × ((n : ℕ) × Reach w l.samples n × (n ≤ pasts (line l.lines) (length l.lines)))

abbrev pub decreases-loop-samples : goal.decreases-loop-samples
decreases-loop-samples g l = l.extent.samples - l.samples

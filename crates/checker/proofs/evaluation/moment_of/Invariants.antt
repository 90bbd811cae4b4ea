use Rattle.std.proofs.Common.{◌≡◌, ℕ, ◌<◌, false, length, get_or}
use Rattle.recording.specs.Word.{meant}
use Rattle.checker.specs.Moments.{listed}
use Rattle.laws.specs.Runs.{Reads, row_bits}
use Rattle.machine.specs.Tables.{gate_at}
use Rattle.checker.proofs.evaluation.moment_of.Given as goal

abbrev pub invariant-loop-k : goal.invariant-loop-k
invariant-loop-k g l =
    (length l.values ≡ 192)
    × ((j : ℕ) → j < l.k
    → Reads g.R.Truth.Truth.kind (meant g.R.Truth.Truth.means (g.R.Recording.word l.recording)) (row_bits l.rows) (listed l.values)
    (gate_at l.gate-items j) l.i (get_or l.values j false))

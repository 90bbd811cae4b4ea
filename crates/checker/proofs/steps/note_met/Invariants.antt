use Rattle.std.proofs.Common.{◌≡◌, ℕ, ◌<◌, ◌≤◌, false, ◌&&◌, ◌||◌, length, get_or}
use Rattle.checker.specs.Moments.{is_met}
use Rattle.machine.specs.Tables.{pair_at}
use Rattle.checker.proofs.steps.note_met.Given as goal

abbrev pub invariant-loop-k : goal.invariant-loop-k
invariant-loop-k l =
    (length l.met ≡ 64)
    × ((p : ℕ) → p < l.k → get_or l.met p false ≡ (get_or l.initial.met p false || (l.counts && is_met (pair_at l.pair-items p) l.here)))
    × ((p : ℕ) → l.k ≤ p → get_or l.met p false ≡ get_or l.initial.met p false)

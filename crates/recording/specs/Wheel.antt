-- Wheels: a toothed wheel that turns by a tooth each sample, seen by two signals.
use Rattle.std.specs.Prelude.{◌≡◌, ℕ, zero, suc, ◌+◌, ◌-◌, ◌%◌, ◌<◌, ◌≤◌, Bool, ltb, ◌==◌, nat_eq, nat_lt}
use Rattle.std.proofs.Common.{ap, ◌∙◌, arith}
use Rattle.std.proofs.Math.Nat.{add-mod_right}
use Rattle.recording.specs.Word.{Sizes, Word}

-- 2 to 64 teeth, a gap of 1 to teeth - 1, and a start below teeth
abbrev pub Wheels : ℕ → ℕ → ℕ → Type 0
Wheels teeth gap start = (2 ≤ teeth) × (teeth ≤ 64) × (1 ≤ gap) × (gap < teeth) × (start < teeth)

-- the tooth at sample t
abbrev pub tooth : ℕ → ℕ → ℕ → ℕ
tooth teeth start t = (t + start) % teeth

-- signal 0 is yes on a tooth before the gap, signal 1 on tooth 0
abbrev pub wheel_value : ℕ → ℕ → ℕ → ℕ → ℕ → Bool
wheel_value teeth gap start zero t = nat_lt (tooth teeth start t) (teeth - gap)
wheel_value teeth gap start (suc i) t = tooth teeth start t == 0

pub tooth_repeats : (teeth start t : ℕ) → tooth teeth start (t + teeth) ≡ tooth teeth start t
tooth_repeats teeth start t = ap (λ n. n % teeth) (omega arith) ∙ add-mod_right (t + start) teeth

pub wheel_repeats : (teeth gap start i t : ℕ) → wheel_value teeth gap start i (t + teeth) ≡ wheel_value teeth gap start i t
wheel_repeats teeth gap start zero t = ap (λ n. ltb n (teeth - gap)) (tooth_repeats teeth start t)
wheel_repeats teeth gap start (suc i) t = ap (λ n. nat_eq n 0) (tooth_repeats teeth start t)

-- such a wheel has sizes that a recording may have
pub wheel_sizes : {teeth gap start : ℕ} → Wheels teeth gap start → Sizes 2 0 teeth
wheel_sizes fits = (omega arith, omega arith, omega arith, omega arith, omega arith)

-- the word of a wheel
abbrev pub wheel : (teeth gap start : ℕ) → Sizes 2 0 teeth → Word Bool
wheel teeth gap start sizes = record {
  signals = 2;
  stem = 0;
  cycle = teeth;
  sizes = sizes;
  at = wheel_value teeth gap start;
  repeats = λ i t below past. wheel_repeats teeth gap start i t;
}

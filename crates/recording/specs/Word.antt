-- What a recording means: an endless word.
use Rattle.std.specs.Prelude.{◌≡◌, ℕ, ◌+◌, ◌<◌, ◌≤◌, Some, None, Option}
use Rattle.std.proofs.Common.{ap}

-- a signal count, a stem and a cycle that a recording may have
abbrev pub Sizes : ℕ → ℕ → ℕ → Type 0
Sizes signals stem cycle = (1 ≤ signals) × (signals ≤ 32) × (stem ≤ 256) × (1 ≤ cycle) × (cycle ≤ 64)

-- a value for each signal at each sample, which from the stem's end on comes again with each cycle
pub record Word (V : Type 0) : Type 0 where
  pub signals : ℕ
  pub stem : ℕ
  pub cycle : ℕ
  pub sizes : Sizes signals stem cycle
  -- the value of a signal at a sample
  pub at : ℕ → ℕ → V
  pub repeats : (i t : ℕ) → i < signals → stem ≤ t → at i (t + cycle) ≡ at i t

-- the word with each value replaced by what it means
abbrev pub meant : {V M : Type 0} → (V → M) → Word V → Word M
meant means w = record {
  signals = w.signals;
  stem = w.stem;
  cycle = w.cycle;
  sizes = w.sizes;
  at = λ i t. means (w.at i t);
  repeats = λ i t below past. ap means (w.repeats i t below past);
}

-- what a recording answers of signal i at sample t: nothing exactly where the word has no such signal
abbrev pub Answers : {V M : Type 0} → (V → M) → Word V → ℕ → ℕ → Option V → Type 0
Answers means w i t None = w.signals ≤ i
Answers means w i t (Some x) = (i < w.signals) × (means x ≡ means (w.at i t))

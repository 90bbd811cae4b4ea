-- Tapes: a mask of 32 bits for each sample of the stem and of the cycle; bit i of mask t is signal i at sample t.
use Rattle.std.specs.Prelude.{◌≡◌, ℕ, ◌+◌, ◌-◌, ◌/◌, ◌%◌, ◌^◌, ◌<◌, ◌≤◌, min, Bool, false, List, length, ◌==◌, slice_index}
use Rattle.std.proofs.Common.{ap, ◌∙◌, arith}
use Rattle.std.proofs.Math.Nat.{add-mod_right, mod-le}
use Rattle.recording.specs.Word.{Sizes, Word}

-- the sample below stem + cycle that sample t comes again from: t itself in the stem, where t - stem is 0
abbrev pub place : ℕ → ℕ → ℕ → ℕ
place stem cycle t = min t (stem + (t - stem) % cycle)

-- whether bit i of a mask is set
abbrev pub bit : ℕ → ℕ → Bool
bit mask i = mask / 2 ^ i % 2 == 1

-- no mask has a bit at or above the signal count
abbrev pub Within : ℕ → List ℕ → Type 0
Within signals masks = (t i : ℕ) → t < length masks → signals ≤ i → bit (slice_index masks t) i ≡ false

-- what a tape may be made of: sizes within their ranges, a mask for each sample of stem and cycle, and no stray bit
pub record Fits (signals stem cycle : ℕ) (masks : List ℕ) : Type 0 where
  pub sizes : Sizes signals stem cycle
  pub whole : length masks ≡ stem + cycle
  pub within : Within signals masks

pub place_repeats : (stem cycle t : ℕ) → 1 ≤ cycle → stem ≤ t → place stem cycle (t + cycle) ≡ place stem cycle t
place_repeats stem cycle t some past =
    let turn : (t + cycle - stem) % cycle ≡ (t - stem) % cycle = ap (λ n. n % cycle) (omega arith) ∙ add-mod_right (t - stem) cycle in
    let below : (t - stem) % cycle ≤ t - stem = mod-le (t - stem) cycle in
    omega arith

-- the word of a tape
abbrev pub tape : (signals stem cycle : ℕ) → List ℕ → Sizes signals stem cycle → Word Bool
tape signals stem cycle masks sizes = record {
  signals = signals;
  stem = stem;
  cycle = cycle;
  sizes = sizes;
  at = λ i t. bit (slice_index masks (place stem cycle t)) i;
  repeats = λ i t below past. ap (λ p. bit (slice_index masks p) i) (place_repeats stem cycle t sizes.3 past);
}

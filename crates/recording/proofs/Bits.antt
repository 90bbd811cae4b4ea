-- Masks of bits: no stray bit, by their sizes.
use Rattle.std.proofs.Common.{All, ◌↔◌, ◌≡◌, ℕ, ◌+◌, ◌*◌, ◌/◌, ◌%◌, ◌^◌, ◌<◌, ◌≤◌, false, eqb, List, length, get_or, sym, ap, ◌∙◌, div-lt_iff_lt-mul, arith, pow_pos, shr-shr}
use Rattle.std.specs.Int.{bit_at}
use Rattle.std.proofs.lemmas.Bool.{eqb-false}
use Rattle.std.proofs.lemmas.List.Elements.{All-get_or, All-from_get_or}
use Rattle.std.proofs.lemmas.Nat.Bits.{bit_at-lt, bit_at-zero, bit_at_above, same_from_bits}
use Rattle.recording.specs.Tape.{bit, Within}

-- a mask with no bit from n on is below 2 ^ n
small : (n mask : ℕ) → ((i : ℕ) → n ≤ i → bit mask i ≡ false) → mask < 2 ^ n
small n mask none =
    let no : (i : ℕ) → bit_at (mask / 2 ^ n) i ≡ 0 = λ i. ap (λ k. k % 2) (shr-shr mask n i) ∙ omega (arith, eqb-false (bit_at mask (n + i)) 1 (none (n + i) (omega arith)), bit_at-lt mask (n + i)) in
    let front : mask / 2 ^ n ≡ 0 = same_from_bits (mask / 2 ^ n) 0 (λ i. no i ∙ sym (bit_at-zero i)) in
    let h : mask < 1 * 2 ^ n = (div-lt_iff_lt-mul {x = mask} {y = 1} (pow_pos n)).0 (omega arith) in
    omega arith

pub within_small : (signals : ℕ) (masks : List ℕ) → ((t : ℕ) → t < length masks → get_or masks t 0 < 2 ^ signals) → Within signals masks
within_small signals masks h t i inside above = ap (λ b. eqb b 1) (bit_at_above (get_or masks t 0) signals i (h t inside) above)

pub small_within : (signals : ℕ) (masks : List ℕ) → Within signals masks → (t : ℕ) → t < length masks → get_or masks t 0 < 2 ^ signals
small_within signals masks h t inside = small signals (get_or masks t 0) (λ i above. h t i inside above)

-- no stray bit, by the masks' sizes
pub within_all : (signals : ℕ) (masks : List ℕ) → All (λ mask. mask < 2 ^ signals) masks ↔ Within signals masks
within_all signals masks = (
  (λ h. within_small signals masks (λ t inside. All-get_or (λ mask. mask < 2 ^ signals) masks t 0 inside h)),
  λ h. All-from_get_or (λ mask. mask < 2 ^ signals) masks 0 (small_within signals masks h),
)

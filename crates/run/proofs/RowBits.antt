-- A row with a bit above all its own.
use Rattle.std.proofs.Common.{◌≡◌, ℕ, suc, ◌+◌, ◌-◌, ◌*◌, ◌/◌, ◌%◌, ◌^◌, ◌<◌, Bool, true, false, cond, eqb, sym, ap, ◌∙◌, add-zero, one-mul, arith}
use native.Mathlib.Nat.{div-eq_of_lt, add-mul-div_right, add-mul-mod_self_right}
use lib.Bits.{bit_or}
use Rattle.std.proofs.lemmas.Nat.{pow_pos, pow-add, one_shl, or_comm, or_shifted, shr_high}
use Rattle.recording.specs.Tape.{bit}

pub or_top : (row place : ℕ) → place < 64 → row < 2 ^ place → bit_or row ((1 * 2 ^ place) % 2 ^ 64) ≡ row + 2 ^ place
or_top row place inside small =
    ap (bit_or row) (one_shl place 64 inside ∙ sym (one-mul (2 ^ place))) ∙ or_comm row (1 * 2 ^ place)
    ∙ or_shifted 1 place row small ∙ omega (arith, one-mul (2 ^ place))

pub below_next : (n row : ℕ) (b : Bool) → row < 2 ^ n → row + cond b (2 ^ n) 0 < 2 ^ (n + 1)
below_next n row true small = omega (arith, pow-add 2 n 1)
below_next n row false small = omega (arith, pow-add 2 n 1)

-- the bit is there
pub bit_here : (n row : ℕ) (b : Bool) → row < 2 ^ n → bit (row + cond b (2 ^ n) 0) n ≡ b
bit_here n row true small =
    let one : (row + 2 ^ n) / 2 ^ n ≡ 1 = ap (λ m. m / 2 ^ n) (omega (arith, one-mul (2 ^ n))) ∙ shr_high 1 n row small in
    ap (λ m. eqb (m % 2) 1) one
bit_here n row false small =
    let none : (row + 0) / 2 ^ n ≡ 0 = div-eq_of_lt (omega arith) in
    ap (λ m. eqb (m % 2) 1) none

-- the lower bits are as they were
pub bit_lower : (n row m : ℕ) (b : Bool) → m < n → bit (row + cond b (2 ^ n) 0) m ≡ bit row m
bit_lower n row m false h = ap (λ r. bit r m) (add-zero row)
bit_lower n row m true h =
    let q : ℕ = 2 ^ (n - suc m) in
    let whole : 2 ^ n ≡ q * 2 * 2 ^ m = ap (λ k. 2 ^ k) (omega arith) ∙ pow-add 2 (n - suc m + 1) m ∙ ap (λ k. k * 2 ^ m) (pow-add 2 (n - suc m) 1) in
    let high : (row + 2 ^ n) / 2 ^ m ≡ row / 2 ^ m + q * 2 = ap (λ k. (row + k) / 2 ^ m) whole ∙ add-mul-div_right row (q * 2) (pow_pos m) in
    ap (λ k. eqb (k % 2) 1) high ∙ ap (λ k. eqb k 1) (add-mul-mod_self_right (row / 2 ^ m) q 2)

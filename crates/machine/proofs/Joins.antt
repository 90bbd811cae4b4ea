-- Lists laid one after the other, and where each begins.
use Rattle.std.proofs.Common.{◌≡◌, ℕ, zero, suc, ◌+◌, ◌-◌, ◌<◌, ◌≤◌, ◌⊎◌, List, length, get_or, sym, refl, ap, ◌∙◌, ap₂, inl, inr, not-suc-le-zero, arith, length-append}
use native.Mathlib.Decide.{dec_lt}
use Rattle.std.proofs.lemmas.List.{get_or-append_right}
use lib.ListN.{get_or-append}
use Rattle.machine.specs.Translation.{total, joined}

pub below_suc : (i n : ℕ) → i < suc n → (i < n) ⊎ (i ≡ n)
below_suc i n h = elim (dec_lt i n) [ yes a ↦ inl a | no b ↦ inr (omega arith) ]

pub total_le : (c : ℕ → ℕ) (k n : ℕ) → k < n → total c k + c k ≤ total c n
total_le c k zero h = absurd (not-suc-le-zero h)
total_le c k (suc n) h =
    elim (below_suc k n h) [
      | inl a ↦ (let q : total c k + c k ≤ total c n = total_le c k n a in omega arith)
      | inr e ↦ (let q : total c k + c k ≡ total c n + c n = ap (λ m. total c m + c m) e in omega arith)
    ]

module _ {A : Type 0} where
  module _ (l : ℕ → List A) (d : A) (c : ℕ → ℕ) (ec : (k : ℕ) → length (l k) ≡ c k) where
    pub joined_length : (n : ℕ) → length (joined l n) ≡ total c n
    joined_length zero = refl
    joined_length (suc n) = length-append (joined l n) (l n) ∙ ap₂ ◌+◌ (joined_length n) (ec n)

    pub joined_at : (n k i : ℕ) → k < n → i < c k → get_or (joined l n) (total c k + i) d ≡ get_or (l k) i d
    joined_at zero k i h hi = absurd (not-suc-le-zero h)
    joined_at (suc n) k i h hi =
        elim (below_suc k n h) [
          | inl a ↦
              get_or-append (joined l n) (l n) d (total c k + i) (omega (arith, total_le c k n a, joined_length n)) ∙ joined_at n k i a hi
          | inr e ↦
              (let same : total c k ≡ total c n = ap (total c) e in
              let at : total c k + i - total c n ≡ i = omega arith in
              get_or-append_right (joined l n) (l n) (total c n) (total c k + i) d (joined_length n) (omega arith) ∙ (λ j. get_or (l (sym e j)) (at j) d))
        ]

    pub joined_find : (n j : ℕ) → j < length (joined l n) → (k : ℕ) × (i : ℕ) × (k < n) × (i < c k) × (j ≡ total c k + i)
    joined_find zero j h = absurd (not-suc-le-zero h)
    joined_find (suc n) j h =
        elim (dec_lt j (total c n)) [
          | yes a ↦
              (let w = joined_find n j (omega (arith, joined_length n)) in
              (w.0, w.1, omega (arith, w.2), w.3, w.4))
          | no b ↦ (n, j - total c n, omega arith, omega (arith, joined_length (suc n)), omega arith)
        ]

-- The and and the or of several values.
use Rattle.std.proofs.Common.{◌≡◌, ℕ, zero, suc, ◌+◌, ◌<◌, ◌≤◌, ◌⊎◌, refl, ap, ◌∙◌, ap₂, inl, inr, not-suc-le-zero, add-zero, add-suc, suc-add, arith}
use Rattle.recording.specs.Kind.{Kind, AtMost}
use Rattle.meaning.specs.Sheet.{Values, ands, ors}
use Rattle.meaning.proofs.Lattice.{at_trans, at_anti, and_left, and_right, at_and, or_left, or_right, or_at, no_at, at_yes}

-- below suc n: below n, or n
pub below_suc : (i n : ℕ) → i < suc n → (i < n) ⊎ (i ≡ n)
below_suc i zero h = inr (omega arith)
below_suc zero (suc n) h = inl (omega arith)
below_suc (suc i) (suc n) h = elim (below_suc i n (omega arith)) [ inl k ↦ inl (omega arith) | inr e ↦ inr (ap suc e) ]

module _ (K : Kind) where
  pub ands_cong : (l m : Values K) (s t n : ℕ) → ((i : ℕ) → i < n → l (s + i) ≡ m (t + i)) → ands K l s n ≡ ands K m t n
  ands_cong l m s t zero e = refl
  ands_cong l m s t (suc n) e =
      ap₂ K.And
      (rw (add-zero s, add-zero t) at (e 0 (omega arith)))
      (ands_cong l m (suc s) (suc t) n (λ i h. rw (suc-add s i, suc-add t i, ← add-suc s i, ← add-suc t i) (e (suc i) (omega arith))))

  pub ands_at : (l : Values K) (t n i : ℕ) → i < n → AtMost K (ands K l t n) (l (t + i))
  ands_at l t zero i h = absurd (not-suc-le-zero h)
  ands_at l t (suc n) zero h = rw (add-zero t) (and_left K (l t) (ands K l (suc t) n))
  ands_at l t (suc n) (suc i) h =
      at_trans K (and_right K (l t) (ands K l (suc t) n)) (rw (add-suc t i, ← suc-add t i) (ands_at l (suc t) n i (omega arith)))

  pub at_ands : (l : Values K) (t n : ℕ) (p : K.Value) → ((i : ℕ) → i < n → AtMost K p (l (t + i))) → AtMost K p (ands K l t n)
  at_ands l t zero p h = at_yes K p
  at_ands l t (suc n) p h =
      at_and K
      (rw (add-zero t) at (h 0 (omega arith)))
      (at_ands l (suc t) n p (λ i k. rw (suc-add t i, ← add-suc t i) (h (suc i) (omega arith))))

  pub ands_fewer : (l : Values K) (t m n : ℕ) → m ≤ n → AtMost K (ands K l t n) (ands K l t m)
  ands_fewer l t m n h = at_ands l t m (ands K l t n) (λ i k. ands_at l t n i (omega arith))

  pub ands_last : (l : Values K) (t n : ℕ) → ands K l t (suc n) ≡ K.And (ands K l t n) (l (t + n))
  ands_last l t n =
      at_anti K
      (at_and K (ands_fewer l t n (suc n) (omega arith)) (ands_at l t (suc n) n (omega arith)))
      (at_ands l t (suc n) (K.And (ands K l t n) (l (t + n)))
      (λ i h.
      elim (below_suc i n h) [
        | inl k ↦ at_trans K (and_left K (ands K l t n) (l (t + n))) (ands_at l t n i k)
        | inr e ↦ rw e (and_right K (ands K l t n) (l (t + n)))
      ]))

  pub at_ors : (g : Values K) (n i : ℕ) → i < n → AtMost K (g i) (ors K g n)
  at_ors g zero i h = absurd (not-suc-le-zero h)
  at_ors g (suc n) i h =
      elim (below_suc i n h) [
        | inl k ↦ at_trans K (at_ors g n i k) (or_left K (ors K g n) (g n))
        | inr e ↦ rw e (or_right K (ors K g n) (g n))
      ]

  pub ors_at : (g : Values K) (n : ℕ) (p : K.Value) → ((i : ℕ) → i < n → AtMost K (g i) p) → AtMost K (ors K g n) p
  ors_at g zero p h = no_at K p
  ors_at g (suc n) p h = or_at K (ors_at g n p (λ i k. h i (omega arith))) (h n (omega arith))

  pub ors_cong : (g h : Values K) (n : ℕ) → ((i : ℕ) → i < n → g i ≡ h i) → ors K g n ≡ ors K h n
  ors_cong g h zero e = refl
  ors_cong g h (suc n) e = ap₂ K.Or (ors_cong g h n (λ i k. e i (omega arith))) (e n (omega arith))

  pub and_ors : (p : K.Value) (g : Values K) (n : ℕ) → K.And p (ors K g n) ≡ ors K (λ i. K.And p (g i)) n
  and_ors p g zero = at_anti K (and_right K p K.No) (no_at K (K.And p K.No))
  and_ors p g (suc n) = K.and_over_or p (ors K g n) (g n) ∙ ap (λ x. K.Or x (K.And p (g n))) (and_ors p g n)

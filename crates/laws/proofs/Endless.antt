-- Where the positions of an endless run stand among its rows.
use Rattle.std.proofs.Common.{◌≡◌, ℕ, zero, suc, ◌+◌, ◌-◌, ◌*◌, ◌<◌, ◌≤◌, cond, sym, refl, ap, ◌∙◌, subst, arith}
use native.Mathlib.Decide.{dec_lt}
use Rattle.std.proofs.lemmas.Bool.{lt-ltb, le-ltb}
use Rattle.meaning.proofs.Build.{below_all}
use Rattle.laws.specs.Runs.{after, row_at}

module _ (n back : ℕ) (inside : back < n) where
  after_next : (i : ℕ) → suc i < n → after n back i ≡ suc i
  after_next i h = ap (λ b. cond b (suc i) back) (lt-ltb (suc i) n h)

  after_last : (i : ℕ) → n ≤ suc i → after n back i ≡ back
  after_last i h = ap (λ b. cond b (suc i) back) (le-ltb (suc i) n h)

  pub after_in : (i : ℕ) → after n back i < n
  after_in i =
      elim (dec_lt (suc i) n) [
        | yes h ↦ subst (λ z. z < n) (sym (after_next i h)) h
        | no h ↦ subst (λ z. z < n) (sym (after_last i (omega arith))) inside
      ]

  pub row_in : (t : ℕ) → row_at n back t < n
  row_in zero = omega arith
  row_in (suc t) = after_in (row_at n back t)

  pub row_low : (t : ℕ) → t < n → row_at n back t ≡ t
  row_low zero h = refl
  row_low (suc t) h = ap (after n back) (row_low t (omega arith)) ∙ after_next t h

  -- the row after the last is row back
  around : row_at n back n ≡ back
  around = go n refl
    where
      go : (m : ℕ) → m ≡ n → row_at n back m ≡ back
      go zero e = absurd (omega arith)
      go (suc m) e = ap (after n back) (row_low m (omega arith)) ∙ after_last m (omega arith)

  turn : (i : ℕ) → row_at n back (back + i + (n - back)) ≡ row_at n back (back + i)
  turn zero =
      let e : back + 0 + (n - back) ≡ n = omega arith in
      let z : back + 0 ≡ back = omega arith in
      ap (row_at n back) e ∙ around ∙ sym (row_low back inside) ∙ ap (row_at n back) (sym z)
  turn (suc i) =
      let e : back + suc i + (n - back) ≡ suc (back + i + (n - back)) = omega arith in
      let z : suc (back + i) ≡ back + suc i = omega arith in
      ap (row_at n back) e ∙ ap (after n back) (turn i) ∙ ap (row_at n back) z

  pub row_repeats : (t : ℕ) → back ≤ t → row_at n back (t + (n - back)) ≡ row_at n back t
  row_repeats t h =
      let e : back + (t - back) ≡ t = omega arith in
      subst (λ z. row_at n back (z + (n - back)) ≡ row_at n back z) e (turn (t - back))

  -- what repeats from back on is the same at a position and at its row
  pub row_same : {A : Type 0} (y : ℕ → A) → ((t : ℕ) → back ≤ t → y (t + (n - back)) ≡ y t) → (t : ℕ) → y (row_at n back t) ≡ y t
  row_same y rep =
      below_all (λ t. y (row_at n back t) ≡ y t) (n - back) n (omega arith) (omega arith)
      (λ t h. ap y (row_low t h))
      (λ t h k.
      let e : t - (n - back) + (n - back) ≡ t = omega arith in
      subst (λ s. y (row_at n back s) ≡ y s) e
      (ap y (row_repeats (t - (n - back)) (omega arith)) ∙ k ∙ sym (rep (t - (n - back)) (omega arith))))

  pub row_times : (k t : ℕ) → back ≤ t → row_at n back (t + k * (n - back)) ≡ row_at n back t
  row_times zero t h = let e : t + 0 * (n - back) ≡ t = omega arith in ap (row_at n back) e
  row_times (suc k) t h =
      let e : t + suc k * (n - back) ≡ t + k * (n - back) + (n - back) = omega arith in
      ap (row_at n back) e ∙ row_repeats (t + k * (n - back)) (omega arith) ∙ row_times k t h

  pub row_back : (t : ℕ) → back ≤ t → back ≤ row_at n back t
  row_back = below_all (λ t. back ≤ t → back ≤ row_at n back t) (n - back) n (omega arith) (omega arith)
      (λ t h b. omega (arith, row_low t h))
      (λ t h k b.
      let e : t - (n - back) + (n - back) ≡ t = omega arith in
      let w : row_at n back t ≡ row_at n back (t - (n - back)) = ap (row_at n back) (sym e) ∙ row_repeats (t - (n - back)) (omega arith) in
      omega (arith, k (omega arith)))

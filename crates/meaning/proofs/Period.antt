-- From some sample on the values of each line repeat.
use Rattle.std.proofs.Common.{◌≡◌, ℕ, zero, suc, ◌+◌, ◌-◌, ◌*◌, ◌<◌, ◌≤◌, length, sym, refl, ap, ◌∙◌, subst, ap₂, subst₂, inl, inr, not-suc-le-zero, add-zero, add-suc, suc-add, zero-add, arith}
use Rattle.recording.specs.Kind.{Kind, AtMost}
use Rattle.recording.specs.Word.{Word}
use Rattle.sheet.specs.declared.line.Line.{Line}
use Rattle.sheet.specs.declared.line.Line.TheVariants.{Const, Signal, Not, And, Or, Next, Until, WeakUntil, Previous, WeakPrevious, Since, WeakSince}
use Rattle.sheet.specs.Table.{line, Lower, Named, past, pasts}
use Rattle.meaning.specs.Depths.{under}
use Rattle.meaning.specs.Sheet.{Values, ands, ors, since, before, Above, Under, IsUntil, IsAlways, IsWeakUntil, Row, Periodic}
use Rattle.meaning.proofs.Lattice.{twice, step_more, no_at}
use Rattle.meaning.specs.Theorems.{Repeats}
use Rattle.meaning.proofs.Folds.{below_suc, ands_cong, ands_last, ors_cong, and_ors}
use Rattle.meaning.proofs.OneValue.{until_one, weak_one}

module _ (K : Kind) where
  pub above_n : (l r : Values K) (t : ℕ) (p : K.Value) → Above K l r t p → (n : ℕ) → AtMost K (K.And (r (t + n)) (ands K l t n)) p
  above_n l r t p h n =
      let e : t + n - t ≡ n = omega arith in
      subst (λ m. AtMost K (K.And (r (t + n)) (ands K l t m)) p) e (h (t + n) (omega arith))

  pub n_above : (l r : Values K) (t : ℕ) (p : K.Value) → ((n : ℕ) → AtMost K (K.And (r (t + n)) (ands K l t n)) p) → Above K l r t p
  n_above l r t p h d le =
      let e : t + (d - t) ≡ d = omega arith in
      subst (λ m. AtMost K (K.And (r m) (ands K l t (d - t))) p) e (h (d - t))

  pub under_n : (l : Values K) (t : ℕ) (p : K.Value) → Under K l t p → (n : ℕ) → AtMost K p (l (t + n))
  under_n l t p h n = h (t + n) (omega arith)

  pub n_under : (l : Values K) (t : ℕ) (p : K.Value) → ((n : ℕ) → AtMost K p (l (t + n))) → Under K l t p
  n_under l t p h d le =
      let e : t + (d - t) ≡ d = omega arith in
      subst (λ m. AtMost K p (l m)) e (h (d - t))

  -- an until at s is one at t where the operands' values from there on are the same
  module _ (l r l' r' : Values K) (s t : ℕ) (el : (i : ℕ) → l (s + i) ≡ l' (t + i)) (er : (i : ℕ) → r (s + i) ≡ r' (t + i)) where
    pub above_moves : (p : K.Value) → Above K l r s p → Above K l' r' t p
    above_moves p h =
        n_above l' r' t p
        (λ n. subst₂ (λ x y. AtMost K (K.And x y) p) (er n) (ands_cong K l l' s t n (λ i _. el i)) (above_n l r s p h n))

  pub until_moves : (l r l' r' : Values K) (s t : ℕ) → ((i : ℕ) → l (s + i) ≡ l' (t + i)) → ((i : ℕ) → r (s + i) ≡ r' (t + i))
      → (p : K.Value) → IsUntil K l r s p → IsUntil K l' r' t p
  until_moves l r l' r' s t el er p h =
      record {
        above = above_moves l r l' r' s t el er p h.above;
        least = λ q k. h.least q (above_moves l' r' l r t s (λ i. sym (el i)) (λ i. sym (er i)) q k);
      }

  pub under_moves : (l l' : Values K) (s t : ℕ) → ((i : ℕ) → l (s + i) ≡ l' (t + i)) → (p : K.Value) → Under K l s p → Under K l' t p
  under_moves l l' s t el p h = n_under l' t p (λ n. subst (λ x. AtMost K p x) (el n) (under_n l s p h n))

  pub always_moves : (l l' : Values K) (s t : ℕ) → ((i : ℕ) → l (s + i) ≡ l' (t + i)) → (p : K.Value) → IsAlways K l s p → IsAlways K l' t p
  always_moves l l' s t el p h =
      record {
        under = under_moves l l' s t el p h.under;
        greatest = λ q k. h.greatest q (under_moves l' l t s (λ i. sym (el i)) q k);
      }

  pub weak_moves : (l r l' r' : Values K) (s t : ℕ) → ((i : ℕ) → l (s + i) ≡ l' (t + i)) → ((i : ℕ) → r (s + i) ≡ r' (t + i))
      → (p : K.Value) → IsWeakUntil K l r s p → IsWeakUntil K l' r' t p
  weak_moves l r l' r' s t el er p h =
      record {
        until = h.until;
        always = h.always;
        is_until = until_moves l r l' r' s t el er h.until h.is_until;
        is_always = always_moves l l' s t el h.always h.is_always;
        is_or = h.is_or;
      }

  -- x is carried on by right or (left and the last)
  abbrev pub Carries : Values K → Values K → Values K → Type 0
  Carries l r x = (t : ℕ) → x (suc t) ≡ K.Or (r (suc t)) (K.And (l (suc t)) (x t))

  pub since_zero : (l r : Values K) → since K l r 0 ≡ r 0
  since_zero l r = K.or_comm K.No (K.And (r 0) K.Yes) ∙ K.or_no (K.And (r 0) K.Yes) ∙ K.and_yes (r 0)

  pub since_carries : (l r : Values K) → Carries l r (since K l r)
  since_carries l r t =
      K.or_comm (ors K (λ d. K.And (r d) (ands K l (suc d) (suc t - d))) (suc t)) (K.And (r (suc t)) (ands K l (suc (suc t)) (suc t - suc t)))
      ∙ ap₂ K.Or
      (ap (λ n. K.And (r (suc t)) (ands K l (suc (suc t)) n)) e₀ ∙ K.and_yes (r (suc t)))
      (ors_cong K (λ d. K.And (r d) (ands K l (suc d) (suc t - d))) (λ d. K.And (l (suc t)) (K.And (r d) (ands K l (suc d) (t - d)))) (suc t) each
      ∙ sym (and_ors K (l (suc t)) (λ d. K.And (r d) (ands K l (suc d) (t - d))) (suc t)))
    where
      e₀ : suc t - suc t ≡ 0
      e₀ = omega arith

      each : (d : ℕ) → d < suc t → K.And (r d) (ands K l (suc d) (suc t - d)) ≡ K.And (l (suc t)) (K.And (r d) (ands K l (suc d) (t - d)))
      each d h =
          let e₁ : suc t - d ≡ suc (t - d) = omega arith in
          let e₂ : suc d + (t - d) ≡ suc t = omega arith in
          ap (λ n. K.And (r d) (ands K l (suc d) n)) e₁
          ∙ ap (K.And (r d)) (ands_last K l (suc d) (t - d) ∙ ap (λ n. K.And (ands K l (suc d) (t - d)) (l n)) e₂)
          ∙ sym (K.and_assoc (r d) (ands K l (suc d) (t - d)) (l (suc t)))
          ∙ K.and_comm (K.And (r d) (ands K l (suc d) (t - d))) (l (suc t))

  pub weak_since : Values K → Values K → Values K
  weak_since l r t = K.Or (since K l r t) (ands K l 0 (suc t))

  pub weak_carries : (l r : Values K) → Carries l r (λ t. K.Or (since K l r t) (ands K l 0 (suc t)))
  weak_carries l r t =
      ap₂ K.Or (since_carries l r t)
      (ands_last K l 0 (suc t) ∙ K.and_comm (ands K l 0 (suc t)) (l (0 + suc t)) ∙ ap (λ n. K.And (l n) (ands K l 0 (suc t))) (zero-add (suc t)))
      ∙ K.or_assoc (r (suc t)) (K.And (l (suc t)) (since K l r t)) (K.And (l (suc t)) (ands K l 0 (suc t)))
      ∙ ap (K.Or (r (suc t))) (sym (K.and_over_or (l (suc t)) (since K l r t) (ands K l 0 (suc t))))

  -- n steps from t on: c or (d and x)
  given : Values K → Values K → ℕ → ℕ → K.Value
  given l r t zero = K.No
  given l r t (suc n) = K.Or (r (suc (t + n))) (K.And (l (suc (t + n))) (given l r t n))

  kept : Values K → ℕ → ℕ → K.Value
  kept l t zero = K.Yes
  kept l t (suc n) = K.And (l (suc (t + n))) (kept l t n)

  steps : (l r x : Values K) → Carries l r x → (t n : ℕ) → x (t + n) ≡ K.Or (given l r t n) (K.And (kept l t n) (x t))
  unfolding given kept
  steps l r x h t zero =
      ap x (add-zero t)
      ∙ sym (K.and_yes (x t)) ∙ K.and_comm (x t) K.Yes
      ∙ sym (no_at K (K.And K.Yes (x t)))
  steps l r x h t (suc n) =
      ap x (add-suc t n) ∙ h (t + n) ∙ ap (λ y. K.Or (r (suc (t + n))) (K.And (l (suc (t + n))) y)) (steps l r x h t n)
      ∙ step_more K (r (suc (t + n))) (l (suc (t + n))) (given l r t n) (kept l t n) (x t)

  -- right and left repeat from the sample after S on
  module _ (v S : ℕ) (l r : Values K) (pl : Periodic K v (suc S) l) (pr : Periodic K v (suc S) r) where
    same : (t : ℕ) → S ≤ t → (n : ℕ) → l (suc (t + v + n)) ≡ l (suc (t + n))
    same t h n =
        let e : suc (t + v + n) ≡ suc (t + n) + v = omega arith in
        rw e (pl (suc (t + n)) (omega arith))

    same_r : (t : ℕ) → S ≤ t → (n : ℕ) → r (suc (t + v + n)) ≡ r (suc (t + n))
    same_r t h n =
        let e : suc (t + v + n) ≡ suc (t + n) + v = omega arith in
        rw e (pr (suc (t + n)) (omega arith))

    given_same : (t n : ℕ) → S ≤ t → given l r (t + v) n ≡ given l r t n
    unfolding given
    given_same t zero h = refl
    given_same t (suc n) h = ap₂ K.Or (same_r t h n) (ap₂ K.And (same t h n) (given_same t n h))

    kept_same : (t n : ℕ) → S ≤ t → kept l (t + v) n ≡ kept l t n
    unfolding kept
    kept_same t zero h = refl
    kept_same t (suc n) h = ap₂ K.And (same t h n) (kept_same t n h)

    carries_period : (x : Values K) → Carries l r x → (t : ℕ) → S ≤ t → x (t + v + v) ≡ x (t + v)
    carries_period x c t h =
        steps l r x c (t + v) v
        ∙ ap₂ (λ a b. K.Or a (K.And b (x (t + v)))) (given_same t v h) (kept_same t v h)
        ∙ ap (λ y. K.Or (given l r t v) (K.And (kept l t v) y)) (steps l r x c t v)
        ∙ twice K (given l r t v) (kept l t v) (x t)
        ∙ sym (steps l r x c t v)

    pub carries_periodic : (x : Values K) → Carries l r x → Periodic K v (S + v) x
    carries_periodic x c t h =
        let e : t - v + v ≡ t = omega arith in
        subst (λ s. x (s + v) ≡ x s) e (carries_period x c (t - v) (omega arith))

-- P holds of each line that a line names
abbrev pub Over : Line → (ℕ → Type 0) → Type 0
Over (Const b) P = Unit {0}
Over (Signal i) P = Unit {0}
Over (Not a) P = P a
Over (And a b) P = P a × P b
Over (Or a b) P = P a × P b
Over (Next a) P = P a
Over (Until a b) P = P a × P b
Over (WeakUntil a b) P = P a × P b
Over (Previous a) P = P a
Over (WeakPrevious a) P = P a
Over (Since a b) P = P a × P b
Over (WeakSince a b) P = P a × P b

-- each line that a line names is lower, and not deeper than those below it
pub over_under : (k : ℕ) (d : ℕ → ℕ) (x : Line) → Lower k x → (P : ℕ → Type 0) → ((a : ℕ) → a < k → d a ≤ under d x → P a) → Over x P
over_under k d (Const b) low P h = tt
over_under k d (Signal i) low P h = tt
over_under k d (Not a) low P h = h a low (omega arith)
over_under k d (And a b) low P h = (h a low.0 (omega arith), h b low.1 (omega arith))
over_under k d (Or a b) low P h = (h a low.0 (omega arith), h b low.1 (omega arith))
over_under k d (Next a) low P h = h a low (omega arith)
over_under k d (Until a b) low P h = (h a low.0 (omega arith), h b low.1 (omega arith))
over_under k d (WeakUntil a b) low P h = (h a low.0 (omega arith), h b low.1 (omega arith))
over_under k d (Previous a) low P h = h a low (omega arith)
over_under k d (WeakPrevious a) low P h = h a low (omega arith)
over_under k d (Since a b) low P h = (h a low.0 (omega arith), h b low.1 (omega arith))
over_under k d (WeakSince a b) low P h = (h a low.0 (omega arith), h b low.1 (omega arith))

module _ (K : Kind) (word : Word K.Value) where
  -- one row: y are a line's values, and the lines that it names repeat from S on
  module _ (S : ℕ) (stem : word.stem ≤ S) (f : ℕ → Values K) (y : Values K) where
    -- the line a repeats from S on
    abbrev Rep : ℕ → Type 0
    Rep a = Periodic K word.cycle S (f a)

    next_shift : (a : ℕ) → Rep a → (t : ℕ) → S ≤ t → (i : ℕ) → f a (t + word.cycle + i) ≡ f a (t + i)
    next_shift a rep t ht i =
        let e : t + word.cycle + i ≡ t + i + word.cycle = omega arith in
        rw e (rep (t + i) (omega arith))

    back_period : (start : K.Value) (a : ℕ) → Rep a → ((t : ℕ) → y t ≡ before K start (f a) t) → Periodic K word.cycle (S + word.cycle) y
    back_period start a rep row zero ht = absurd (not-suc-le-zero one)
      where
        one : 1 ≤ 0
        one = omega (arith, word.sizes.3)
    back_period start a rep row (suc t) ht =
        row (suc t + word.cycle)
        ∙ ap (before K start (f a)) (suc-add t word.cycle)
        ∙ rep t (omega (arith, word.sizes.3))
        ∙ sym (row (suc t))

    pub row_over : (x : Line) → Over x Rep → Named word.signals x → ((t : ℕ) → Row K word x f t (y t))
        → Periodic K word.cycle (S + past x * word.cycle) y
    row_over (Const b) rep nam row t ht = row (t + word.cycle) ∙ sym (row t)
    row_over (Signal i) rep nam row t ht = row (t + word.cycle) ∙ word.repeats i t nam (omega arith) ∙ sym (row t)
    row_over (Not a) rep nam row t ht = row (t + word.cycle) ∙ ap K.Not (rep t (omega arith)) ∙ sym (row t)
    row_over (And a b) rep nam row t ht =
        row (t + word.cycle) ∙ ap₂ K.And (rep.0 t (omega arith)) (rep.1 t (omega arith)) ∙ sym (row t)
    row_over (Or a b) rep nam row t ht =
        row (t + word.cycle) ∙ ap₂ K.Or (rep.0 t (omega arith)) (rep.1 t (omega arith)) ∙ sym (row t)
    row_over (Next a) rep nam row t ht = row (t + word.cycle) ∙ next_shift a rep t (omega arith) 1 ∙ sym (row t)
    row_over (Until a b) rep nam row t ht =
        until_one K (f a) (f b) t (y (t + word.cycle)) (y t)
        (until_moves K (f a) (f b) (f a) (f b) (t + word.cycle) t (next_shift a rep.0 t (omega arith)) (next_shift b rep.1 t (omega arith))
        (y (t + word.cycle)) (row (t + word.cycle)))
        (row t)
    row_over (WeakUntil a b) rep nam row t ht =
        weak_one K (f a) (f b) t (y (t + word.cycle)) (y t)
        (weak_moves K (f a) (f b) (f a) (f b) (t + word.cycle) t (next_shift a rep.0 t (omega arith)) (next_shift b rep.1 t (omega arith))
        (y (t + word.cycle)) (row (t + word.cycle)))
        (row t)
    row_over (Previous a) rep nam row t ht = back_period K.No a rep row t (omega arith)
    row_over (WeakPrevious a) rep nam row t ht = back_period K.Yes a rep row t (omega arith)
    row_over (Since a b) rep nam row t ht =
        carries_periodic K word.cycle S (f a) (f b) (λ s h. rep.0 s (omega arith)) (λ s h. rep.1 s (omega arith)) y
        (λ s. row (suc s) ∙ since_carries K (f a) (f b) s ∙ ap (λ z. K.Or (f b (suc s)) (K.And (f a (suc s)) z)) (sym (row s)))
        t (omega arith)
    row_over (WeakSince a b) rep nam row t ht =
        carries_periodic K word.cycle S (f a) (f b) (λ s h. rep.0 s (omega arith)) (λ s h. rep.1 s (omega arith)) y
        (λ s. row (suc s) ∙ weak_carries K (f a) (f b) s ∙ ap (λ z. K.Or (f b (suc s)) (K.And (f a (suc s)) z)) (sym (row s)))
        t (omega arith)

  -- the same, where all lower lines repeat from S on
  pub row_period : (k S : ℕ) → word.stem ≤ S → (f : ℕ → Values K) → ((a : ℕ) → a < k → Periodic K word.cycle S (f a)) → (y : Values K)
      → (x : Line) → Lower k x → Named word.signals x → ((t : ℕ) → Row K word x f t (y t)) → Periodic K word.cycle (S + past x * word.cycle) y
  row_period k S stem f rep y x low nam row =
      row_over S stem f y x (over_under k (λ _. 0) x low (λ a. Periodic K word.cycle S (f a)) (λ a below _. rep a below)) nam row

  -- lines below n, wherever they come from
  module _ (x : ℕ → Line) (n : ℕ) (low : (k : ℕ) → k < n → Lower k (x k)) (nam : (k : ℕ) → k < n → Named word.signals (x k))
      (f : ℕ → Values K) (rows : (k : ℕ) → k < n → (t : ℕ) → Row K word (x k) f t (f k t)) where
    -- the values of the lines below k repeat from stem + pasts x k * cycle on
    pub period_below : (k : ℕ) → k ≤ n → (a : ℕ) → a < k → Periodic K word.cycle (word.stem + pasts x k * word.cycle) (f a)
    period_below zero hk a ha t ht = absurd (not-suc-le-zero ha)
    period_below (suc k) hk a ha t ht =
        elim (below_suc a k ha) [
          | inl h ↦ period_below k (omega arith) a h t (omega arith)
          | inr e ↦
              subst (λ m. f m (t + word.cycle) ≡ f m t) (sym e)
              (row_period k (word.stem + pasts x k * word.cycle) (omega arith) f (period_below k (omega arith)) (f k)
              (x k) (low k hk) (nam k hk) (rows k hk) t (omega arith))
        ]

pub period : (K : Kind) → Repeats K
period K word lines sheet nam f v k hk t ht =
    period_below K word (line lines) (length lines) sheet nam f v (suc k) (omega arith) k (omega arith) t ht

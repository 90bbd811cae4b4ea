-- The heart of the translation, on sequences of bits: q t is r t, or l t and q (t + 1).
use Rattle.std.proofs.Common.{◌≡◌, ℕ, zero, suc, ◌+◌, ◌-◌, ◌<◌, Bool, true, false, not, ◌&&◌, ◌||◌, ◌⊎◌, sym, refl, ap, ◌∙◌, subst, subst₂, inl, inr, true≢false, add-zero, add-suc, suc-add, arith}
use native.Mathlib.Decide.{dec_lt}
use Rattle.std.proofs.lemmas.Bool.{and_parts, and_from, or_cases, or_left, or_right}
use Rattle.recording.specs.Kinds.{two}
use Rattle.meaning.specs.Sheet.{Values, ands, IsUntil, IsWeakUntil}
use Rattle.meaning.proofs.Folds.{ands_last}
use Rattle.meaning.proofs.Period.{n_above, above_n, n_under}
use Rattle.laws.specs.Runs.{Often}
use Rattle.machine.specs.Signs.{Sign, plus, minus, opposite}
use Rattle.laws.proofs.Reading.{Reaches, up, at_most, ands_all}

pub Bound : Sign → Bool → Bool → Type 0
Bound plus p q = p ≡ true → q ≡ true
Bound minus p q = q ≡ true → p ≡ true

pub bound_plus : {p q : Bool} → (p ≡ true → q ≡ true) → Bound plus p q
unfolding Bound
bound_plus h = h

pub bound_minus : {p q : Bool} → (q ≡ true → p ≡ true) → Bound minus p q
unfolding Bound
bound_minus h = h

pub by_plus : {p q : Bool} → Bound plus p q → p ≡ true → q ≡ true
unfolding Bound
by_plus h = h

pub by_minus : {p q : Bool} → Bound minus p q → q ≡ true → p ≡ true
unfolding Bound
by_minus h = h

pub bound_same : (s : Sign) (p q : Bool) → p ≡ q → Bound s p q
unfolding Bound
bound_same plus p q e = λ h. sym e ∙ h
bound_same minus p q e = λ h. e ∙ h

pub bound_eq : (s : Sign) {p q p' q' : Bool} → p ≡ p' → q ≡ q' → Bound s p' q' → Bound s p q
bound_eq s {p} {q} {p'} {q'} e h b = subst₂ (Bound s) (sym e) (sym h) b

pub not_bound : (s : Sign) (p q : Bool) → Bound (opposite s) p q → Bound s (not p) (not q)
unfolding Bound
not_bound plus true true b = λ e. e
not_bound plus true false b = λ e. refl
not_bound plus false true b = λ e. b refl
not_bound plus false false b = λ e. refl
not_bound minus true true b = λ e. e
not_bound minus true false b = λ e. b refl
not_bound minus false true b = λ e. refl
not_bound minus false false b = λ e. refl

pub and_bound : (s : Sign) (p q p' q' : Bool) → Bound s p p' → Bound s q q' → Bound s (p && q) (p' && q')
unfolding Bound
and_bound plus p q p' q' b c = λ e. let h = and_parts p q e in and_from p' q' (b h.0) (c h.1)
and_bound minus p q p' q' b c = λ e. let h = and_parts p' q' e in and_from p q (b h.0) (c h.1)

pub or_bound : (s : Sign) (p q p' q' : Bool) → Bound s p p' → Bound s q q' → Bound s (p || q) (p' || q')
unfolding Bound
or_bound plus p q p' q' b c = λ e. elim (or_cases p q e) [ inl h ↦ or_left p' q' (b h) | inr h ↦ or_right p' q' (c h) ]
or_bound minus p q p' q' b c = λ e. elim (or_cases p' q' e) [ inl h ↦ or_left p q (b h) | inr h ↦ or_right p q (c h) ]

abbrev pub Unrolls : Values two → Values two → Values two → Type 0
Unrolls l r q = (t : ℕ) → q t ≡ (r t || (l t && q (suc t)))

module _ (l r q : Values two) (unrolls : Unrolls l r q) where
  pub forth : (t : ℕ) → q t ≡ true → (r t ≡ true) ⊎ ((l t ≡ true) × (q (suc t) ≡ true))
  forth t e = elim (or_cases (r t) (l t && q (suc t)) (sym (unrolls t) ∙ e)) [ inl a ↦ inl a | inr b ↦ inr (and_parts (l t) (q (suc t)) b) ]

  pub right_now : (t : ℕ) → r t ≡ true → q t ≡ true
  right_now t e = unrolls t ∙ or_left (r t) (l t && q (suc t)) e

  pub left_now : (t : ℕ) → l t ≡ true → q (suc t) ≡ true → q t ≡ true
  left_now t e h = unrolls t ∙ or_right (r t) (l t && q (suc t)) (and_from (l t) (q (suc t)) e h)

  here : (t : ℕ) → r t ≡ true → Reaches l r t
  here t e = (t, omega arith, e, λ s a b. absurd (omega arith))

  later : (t : ℕ) → l t ≡ true → Reaches l r (suc t) → Reaches l r t
  later t e w = (
    w.0,
    omega (arith, w.1),
    w.2,
    λ s a b. elim (dec_lt t s) [ yes h ↦ w.3 s h b | no h ↦ (let z : s ≡ t = omega arith in rw z e) ],
  )

  walk : (m t : ℕ) → q t ≡ true → (q (t + m) ≡ false) ⊎ (r (t + m) ≡ true) → Reaches l r t
  walk zero t e (inl a) = absurd (true≢false (sym e ∙ ap q (sym (add-zero t)) ∙ a))
  walk zero t e (inr a) = here t (ap r (sym (add-zero t)) ∙ a)
  walk (suc m) t e s =
      elim (forth t e) [
        | inl a ↦ here t a
        | inr b ↦ later t b.0 (walk m (suc t) b.1 (let z : t + suc m ≡ suc t + m = omega arith in rw z at s))
      ]

  -- with the pair from q to r: what q claims comes
  pub comes : Often q r → (t : ℕ) → q t ≡ true → Reaches l r t
  comes fair t e =
      let w = fair t in
      let z : w.0 ≡ t + (w.0 - t) = omega (arith, w.1) in
      walk (w.0 - t) t e (subst (λ p. (q p ≡ false) ⊎ (r p ≡ true)) z w.2)

  -- q is carried back over left
  pub back : (m t : ℕ) → q (t + m) ≡ true → ((i : ℕ) → i < m → l (t + i) ≡ true) → q t ≡ true
  back zero t e h = ap q (sym (add-zero t)) ∙ e
  back (suc m) t e h =
      left_now t (ap l (sym (add-zero t)) ∙ h 0 (omega arith))
      (back m (suc t) (ap q (suc-add t m ∙ sym (add-suc t m)) ∙ e)
      (λ i k. ap l (suc-add t i ∙ sym (add-suc t i)) ∙ h (suc i) (omega arith)))

  -- without the pair: what comes, q claims
  pub claims : (t : ℕ) → Reaches l r t → q t ≡ true
  claims t w =
      let z : t + (w.0 - t) ≡ w.0 = omega (arith, w.1) in
      back (w.0 - t) t (ap q z ∙ right_now w.0 w.2) (λ i k. w.3 (t + i) (omega arith) (omega (arith, w.1)))

-- q claims no less than the least value
pub until_claims : (l r l' r' q : Values two) → Unrolls l' r' q → ((t : ℕ) → l t ≡ true → l' t ≡ true) → ((t : ℕ) → r t ≡ true → r' t ≡ true)
    → (t : ℕ) (p : Bool) → IsUntil two l r t p → p ≡ true → q t ≡ true
until_claims l r l' r' q u hl hr t p is e =
    up p (q t)
    (is.least (q t)
    (n_above two l r t (q t)
    (λ n.
    at_most (r (t + n) && ands two l t n) (q t)
    (λ both.
    let b = and_parts (r (t + n)) (ands two l t n) both in
    back l' r' q u n t (right_now l' r' q u (t + n) (hr (t + n) b.0)) (λ i k. hl (t + i) (ands_all l t n b.1 i k))))))
    e

-- with the pair from left to q: q claims a left that stays
pub weak_claims : (l r l' r' q : Values two) → Unrolls l' r' q → Often l' q → ((t : ℕ) → l t ≡ true → l' t ≡ true) → ((t : ℕ) → r t ≡ true → r' t ≡ true)
    → (t : ℕ) (p : Bool) → IsWeakUntil two l r t p → p ≡ true → q t ≡ true
weak_claims l r l' r' q u fair hl hr t p is e =
    elim (or_cases is.until is.always (sym is.is_or ∙ e)) [
      | inl a ↦ until_claims l r l' r' q u hl hr t is.until is.is_until a
      | inr a ↦ stays a
    ]
  where
    all : is.always ≡ true → (n : ℕ) → l' (t + n) ≡ true
    all a n = hl (t + n) (up is.always (l (t + n)) (is.is_always.under (t + n) (omega arith)) a)

    stays : is.always ≡ true → q t ≡ true
    stays a =
        let w = fair t in
        let z : t + (w.0 - t) ≡ w.0 = omega (arith, w.1) in
        back l' r' q u (w.0 - t) t
        (ap q z
        ∙ elim w.2 [
          | inl no_left ↦ absurd (true≢false (sym (all a (w.0 - t)) ∙ ap l' z ∙ no_left))
          | inr yes_q ↦ yes_q
        ])
        (λ i k. all a i)

-- without the pair: what q claims is no more than the weak until
pub weak_comes : (l r l' r' q : Values two) → Unrolls l' r' q → ((t : ℕ) → l' t ≡ true → l t ≡ true) → ((t : ℕ) → r' t ≡ true → r t ≡ true)
    → (t : ℕ) (p : Bool) → IsWeakUntil two l r t p → q t ≡ true → p ≡ true
weak_comes l r l' r' q u hl hr t p is e = is.is_or ∙ go is.until refl
  where
    never : is.until ≡ false → (n : ℕ) → r (t + n) ≡ true → ands two l t n ≡ true → ⊥
    never no_until n a b =
        true≢false (sym (up (r (t + n) && ands two l t n) is.until (above_n two l r t is.until is.is_until.above n) (and_from (r (t + n)) (ands two l t n) a b)) ∙ no_until)

    stays : is.until ≡ false → (n : ℕ) → (q (t + n) ≡ true) × (ands two l t n ≡ true)
    stays no_until zero = (ap q (add-zero t) ∙ e, refl)
    stays no_until (suc n) = next (stays no_until n)
      where
        next : (q (t + n) ≡ true) × (ands two l t n ≡ true) → (q (t + suc n) ≡ true) × (ands two l t (suc n) ≡ true)
        next h =
            elim (forth l' r' q u (t + n) h.0) [
              | inl a ↦ absurd (never no_until n (hr (t + n) a) h.1)
              | inr b ↦ (
                ap q (add-suc t n) ∙ b.1,
                ands_last two l t n ∙ and_from (ands two l t n) (l (t + n)) h.1 (hl (t + n) b.0),
              )
            ]

    go : (b : Bool) → is.until ≡ b → (is.until || is.always) ≡ true
    go true a = or_left is.until is.always a
    go false a =
        or_right is.until is.always
        (up true is.always
        (is.is_always.greatest true
        (n_under two l t true (λ n. sym (ands_all l t (suc n) (stays a (suc n)).1 n (omega arith)))))
        refl)

-- The usual reading of an until, at two values.
use Rattle.std.proofs.Common.{◌≡◌, ℕ, zero, suc, ◌+◌, ◌-◌, ◌<◌, ◌≤◌, Bool, true, false, ◌&&◌, sym, refl, ◌∙◌, subst, inl, inr, arith}
use mathlib.Core.Bool.{false≢true}
use Rattle.std.proofs.lemmas.Bool.{and_parts, and_from, or_cases}
use Rattle.recording.specs.Kind.{AtMost}
use Rattle.recording.specs.Kinds.{two}
use Rattle.meaning.specs.Sheet.{Values, Periodic, ands, ors, IsUntil}
use Rattle.meaning.proofs.Build.{is_until, until_value}
use Rattle.meaning.proofs.Folds.{ands_at, at_ands}
use Rattle.meaning.proofs.OneValue.{until_one}

-- right comes, and left holds until then
abbrev pub Reaches : Values two → Values two → ℕ → Type 0
Reaches left right t = (d : ℕ) × (t ≤ d) × (right d ≡ true) × ((s : ℕ) → t ≤ s → s < d → left s ≡ true)

pub up : (p q : Bool) → AtMost two p q → p ≡ true → q ≡ true
up p q h e = cc

pub at_most : (p q : Bool) → (p ≡ true → q ≡ true) → AtMost two p q
at_most true q h = sym (h refl)
at_most false q h = refl

pub ands_all : (l : Values two) (t n : ℕ) → ands two l t n ≡ true → (i : ℕ) → i < n → l (t + i) ≡ true
ands_all l t n e i h = up (ands two l t n) (l (t + i)) (ands_at two l t n i h) e

pub all_ands : (l : Values two) (t n : ℕ) → ((i : ℕ) → i < n → l (t + i) ≡ true) → ands two l t n ≡ true
all_ands l t n h = sym (at_ands two l t n true (λ i k. sym (h i k)))

pub ors_some : (g : Values two) (n : ℕ) → ors two g n ≡ true → (i : ℕ) × (i < n) × (g i ≡ true)
ors_some g zero e = absurd (false≢true e)
ors_some g (suc n) e = elim (or_cases (ors two g n) (g n) e) [
  | inl h ↦ let r = ors_some g n h in (r.0, omega arith, r.2)
  | inr h ↦ (n, omega arith, h)
]

module _ (v S : ℕ) (hv : 1 ≤ v) (l r : Values two) (pl : Periodic two v S l) (pr : Periodic two v S r) (t : ℕ) (p : Bool) where
  pub until_reaches : IsUntil two l r t p → p ≡ true → Reaches l r t
  unfolding until_value
  until_reaches h e =
      let g : Values two = λ n. r (t + n) && ands two l t n in
      let w : ors two g (S + v) ≡ true = sym (until_one two l r t p (ors two g (S + v)) h (is_until two v S hv l pl r pr t)) ∙ e in
      let s = ors_some g (S + v) w in
      let b = and_parts (r (t + s.0)) (ands two l t s.0) s.2 in (
        t + s.0,
        omega arith,
        b.0,
        λ m a c. let q : t + (m - t) ≡ m = omega arith in subst (λ z. l z ≡ true) q (ands_all l t s.0 b.1 (m - t) (omega arith)),
      )

pub reaches_until : (l r : Values two) (t : ℕ) (p : Bool) → IsUntil two l r t p → Reaches l r t → p ≡ true
reaches_until l r t p h w =
    up (r w.0 && ands two l t (w.0 - t)) p (h.above w.0 w.1)
    (and_from (r w.0) (ands two l t (w.0 - t)) w.2 (all_ands l t (w.0 - t) (λ i k. w.3 (t + i) (omega arith) (omega arith))))

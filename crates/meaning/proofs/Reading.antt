-- At two values a line holds exactly where temporal logic with past says so.
use Rattle.std.proofs.Common.{◌≡◌, ℕ, zero, suc, ◌+◌, ◌-◌, ◌*◌, ◌<◌, ◌≤◌, true, false, ◌⊎◌, ◌↔◌, length, sym, refl, ap, ◌∙◌, subst, inl, inr, arith}
use mathlib.Core.Bool.{false≢true}
use Rattle.recording.specs.Kind.{Kind, AtMost, TwoValued}
use Rattle.recording.specs.Word.{Word}
use Rattle.sheet.specs.declared.line.Line.{Line}
use Rattle.sheet.specs.declared.line.Line.TheVariants.{Const, Signal, Not, And, Or, Next, Until, WeakUntil, Previous, WeakPrevious, Since, WeakSince}
use Rattle.sheet.specs.Table.{line, Lower, pasts}
use Rattle.meaning.specs.Logic.{Reaches, Reached, Says, ReadsAsLogic}
use Rattle.meaning.specs.Sheet.{Values, Periodic, ands, ors, since, IsUntil, Row}
use Rattle.meaning.proofs.Lattice.{at_anti, at_eq, at_trans, and_left, and_right, at_and, or_left, or_right, no_at, at_yes}
use Rattle.meaning.proofs.Folds.{ands_at, at_ands, at_ors}
use Rattle.meaning.proofs.OneValue.{until_one}
use Rattle.meaning.proofs.Period.{period_below}
use Rattle.meaning.proofs.Build.{is_until, until_value}

module _ (K : Kind) where
  -- what is above yes is yes
  pub up : {p q : K.Value} → AtMost K p q → p ≡ K.Yes → q ≡ K.Yes
  up {p} {q} h e = at_anti K (at_yes K q) (at_trans K (at_eq K (sym e)) h)

  pub and_both : (p q : K.Value) → K.And p q ≡ K.Yes → (p ≡ K.Yes) × (q ≡ K.Yes)
  and_both p q e = (up (and_left K p q) e, up (and_right K p q) e)

  pub both_and : (p q : K.Value) → p ≡ K.Yes → q ≡ K.Yes → K.And p q ≡ K.Yes
  both_and p q e h = up (at_and K (at_eq K (sym e)) (at_eq K (sym h))) refl

  pub all_ands : (l : Values K) (t n : ℕ) → ((i : ℕ) → i < n → l (t + i) ≡ K.Yes) → ands K l t n ≡ K.Yes
  all_ands l t n h = up (at_ands K l t n K.Yes (λ i k. at_eq K (sym (h i k)))) refl

  pub ands_all : (l : Values K) (t n : ℕ) → ands K l t n ≡ K.Yes → (m : ℕ) → t ≤ m → m < t + n → l m ≡ K.Yes
  ands_all l t n e m h₁ h₂ =
      let q : t + (m - t) ≡ m = omega arith in
      subst (λ s. l s ≡ K.Yes) q (up (ands_at K l t n (m - t) (omega arith)) e)

  -- not yes = not (yes or not no) = not yes and no
  pub not_yes : K.Not K.Yes ≡ K.No
  not_yes =
      at_anti K
      (at_trans K
      (at_eq K
      (ap K.Not (sym (K.or_comm K.Yes (K.Not K.No) ∙ at_yes K (K.Not K.No))) ∙ K.not_or K.Yes (K.Not K.No)
      ∙ ap (K.And (K.Not K.Yes)) (K.not_not K.No)))
      (and_right K (K.Not K.Yes) K.No))
      (no_at K (K.Not K.Yes))

module _ (K : Kind) (two : TwoValued K) where
  pub or_either : (p q : K.Value) → K.Or p q ≡ K.Yes → (p ≡ K.Yes) ⊎ (q ≡ K.Yes)
  or_either p q e =
      elim (two.one_of p) [
        | inl n ↦ inr (sym (ap (λ x. K.Or x q) n ∙ no_at K q) ∙ e)
        | inr y ↦ inl y
      ]

  pub not_holds : (p : K.Value) → (K.Not p ≡ K.Yes) ↔ (p ≡ K.Yes → ⊥)
  not_holds p = (
    λ e y. two.differ (sym not_y ∙ ap K.Not (sym y) ∙ e),
    λ h. elim (two.one_of p) [ inl n ↦ ap K.Not (n ∙ sym not_y) ∙ K.not_not K.Yes | inr y ↦ absurd (h y) ],
  )
    where
      not_y : K.Not K.Yes ≡ K.No
      not_y = not_yes K

  pub ors_some : (g : Values K) (n : ℕ) → ors K g n ≡ K.Yes → (i : ℕ) × (i < n) × (g i ≡ K.Yes)
  ors_some g zero e = absurd (two.differ e)
  ors_some g (suc n) e =
      elim (or_either (ors K g n) (g n) e) [
        | inl h ↦ let r = ors_some g n h in (r.0, omega arith, r.2)
        | inr h ↦ (n, omega arith, h)
      ]

  module _ (word : Word K.Value) (k S : ℕ) (f : ℕ → Values K) (rep : (a : ℕ) → a < k → Periodic K word.cycle S (f a)) (t : ℕ) (p : K.Value) where
    reaches : (a b : ℕ) → a < k → b < k → IsUntil K (f a) (f b) t p → (p ≡ K.Yes) ↔ Reaches K word f a b t
    unfolding until_value
    reaches a b ha hb is = (
      λ e.
          let g : Values K = λ n. K.And (f b (t + n)) (ands K (f a) t n) in
          let w : ors K g (S + word.cycle) ≡ K.Yes =
          sym (until_one K (f a) (f b) t p (ors K g (S + word.cycle)) is (is_until K word.cycle S word.sizes.3 (f a) (rep a ha) (f b) (rep b hb) t)) ∙ e in
          let s = ors_some g (S + word.cycle) w in
          let y = and_both K (f b (t + s.0)) (ands K (f a) t s.0) s.2 in
          (t + s.0, omega arith, y.0, ands_all K (f a) t s.0 y.1),
      λ w.
          up K (is.above w.0 w.1)
          (both_and K (f b w.0) (ands K (f a) t (w.0 - t)) w.2
          (all_ands K (f a) t (w.0 - t) (λ i h. w.3 (t + i) (omega arith) (omega arith)))),
    )

  module _ (word : Word K.Value) (f : ℕ → Values K) where
    reached : (a b t : ℕ) → (since K (f a) (f b) t ≡ K.Yes) ↔ Reached K word f a b t
    reached a b t = (
      λ e.
          let s = ors_some g (suc t) e in
          let y = and_both K (f b s.0) (ands K (f a) (suc s.0) (t - s.0)) s.2 in
          (s.0, omega arith, y.0, λ m h₁ h₂. ands_all K (f a) (suc s.0) (t - s.0) y.1 m h₁ (omega arith)),
      λ w.
          up K (at_ors K g (suc t) w.0 (omega arith))
          (both_and K (f b w.0) (ands K (f a) (suc w.0) (t - w.0)) w.2
          (all_ands K (f a) (suc w.0) (t - w.0) (λ i h. w.3 (suc w.0 + i) (omega arith) (omega arith)))),
    )
      where
        g : Values K
        g d = K.And (f b d) (ands K (f a) (suc d) (t - d))

    says : (x : Line) (k S : ℕ) → ((a : ℕ) → a < k → Periodic K word.cycle S (f a)) → Lower k x → (t : ℕ) (p : K.Value)
        → Row K word x f t p → (p ≡ K.Yes) ↔ Says K word f x t
    says (Const true) k S rep low t p row = (λ _. refl, λ _. row)
    says (Const false) k S rep low t p row = (λ e. absurd (two.differ (sym row ∙ e)), λ e. absurd (false≢true e))
    says (Signal i) k S rep low t p row = (λ e. sym row ∙ e, λ e. row ∙ e)
    says (Not a) k S rep low t p row = (λ e. (not_holds (f a t)).0 (sym row ∙ e), λ h. row ∙ (not_holds (f a t)).1 h)
    says (And a b) k S rep low t p row = (λ e. and_both K (f a t) (f b t) (sym row ∙ e), λ h. row ∙ both_and K (f a t) (f b t) h.0 h.1)
    says (Or a b) k S rep low t p row = (
      λ e. or_either (f a t) (f b t) (sym row ∙ e),
      λ h. row ∙ elim h [ inl e ↦ up K (or_left K (f a t) (f b t)) e | inr e ↦ up K (or_right K (f a t) (f b t)) e ],
    )
    says (Next a) k S rep low t p row = (λ e. sym row ∙ e, λ e. row ∙ e)
    says (Until a b) k S rep low t p row = reaches word k S f rep t p a b low.0 low.1 row
    says (WeakUntil a b) k S rep low t p row =
        let until = reaches word k S f rep t row.until a b low.0 low.1 row.is_until in (
          λ e.
              elim (or_either row.until row.always (sym row.is_or ∙ e)) [
                | inl u ↦ inl (until.0 u)
                | inr l ↦ inr (λ m h. up K (row.is_always.under m h) l)
              ],
          λ h.
              row.is_or
              ∙ elim h [
                | inl w ↦ up K (or_left K row.until row.always) (until.1 w)
                | inr l ↦
                    up K (or_right K row.until row.always)
                    (up K (row.is_always.greatest K.Yes (λ d h. at_eq K (sym (l d h)))) refl)
              ],
        )
    says (Previous a) k S rep low zero p row = (λ e. absurd (two.differ (sym row ∙ e)), λ h. absurd (omega (arith, h.0)))
    says (Previous a) k S rep low (suc t) p row =
        let back : suc t - 1 ≡ t = omega arith in
        (λ e. (omega arith, ap (f a) back ∙ sym row ∙ e), λ h. row ∙ ap (f a) (sym back) ∙ h.1)
    says (WeakPrevious a) k S rep low zero p row = (λ _. inl refl, λ _. row)
    says (WeakPrevious a) k S rep low (suc t) p row =
        let back : suc t - 1 ≡ t = omega arith in (
          λ e. inr (ap (f a) back ∙ sym row ∙ e),
          λ h. row ∙ elim h [ inl e ↦ absurd (omega arith) | inr e ↦ ap (f a) (sym back) ∙ e ],
        )
    says (Since a b) k S rep low t p row = (λ e. (reached a b t).0 (sym row ∙ e), λ w. row ∙ (reached a b t).1 w)
    says (WeakSince a b) k S rep low t p row = (
      λ e.
          elim (or_either (since K (f a) (f b) t) (ands K (f a) 0 (suc t)) (sym row ∙ e)) [
            | inl s ↦ inl ((reached a b t).0 s)
            | inr l ↦ inr (λ m h. ands_all K (f a) 0 (suc t) l m (omega arith) (omega arith))
          ],
      λ h.
          row
          ∙ elim h [
            | inl w ↦ up K (or_left K (since K (f a) (f b) t) (ands K (f a) 0 (suc t))) ((reached a b t).1 w)
            | inr l ↦ up K (or_right K (since K (f a) (f b) t) (ands K (f a) 0 (suc t))) (all_ands K (f a) 0 (suc t) (λ i h. l (0 + i) (omega arith)))
          ],
    )

pub reads_as_logic : (K : Kind) → TwoValued K → ReadsAsLogic K
reads_as_logic K two word lines sheet named f val k hk t =
    says K two word f (line lines k) k (word.stem + pasts (line lines) k * word.cycle)
    (period_below K word (line lines) (length lines) sheet named f val k (omega arith)) (sheet k hk) t (f k t) (val k hk t)

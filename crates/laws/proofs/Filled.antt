-- Filling in lost values keeps what is settled.
use Rattle.std.proofs.Common.{◌≡◌, ℕ, zero, suc, ◌+◌, ◌-◌, ◌*◌, ◌<◌, ◌≤◌, true, false, List, length, sym, refl, ap, ◌∙◌, subst, subst₂, not-suc-le-zero, arith}
use Rattle.recording.specs.Kind.{Kind, AtMost}
use Rattle.recording.specs.Kinds.{both, either, other, three}
use Rattle.recording.specs.Word.{Word}
use Rattle.recording.specs.declared.truth.Ternary.{Ternary}
use Rattle.recording.specs.declared.truth.Ternary.TheVariants as ternary
use Rattle.sheet.specs.declared.line.Line.{Line}
use Rattle.sheet.specs.declared.line.Line.TheVariants.{Const, Signal, Not, And, Or, Next, Until, WeakUntil, Previous, WeakPrevious, Since, WeakSince}
use Rattle.sheet.specs.Table.{line, Lower, Sheet, HasSignals, pasts}
use Rattle.meaning.specs.Sheet.{Values, ands, ors, reach, since, before, IsUntil, IsAlways, IsWeakUntil, Row, Valuation, Periodic}
use Rattle.meaning.proofs.Build.{until_value, always_value, is_until, is_always}
use Rattle.meaning.proofs.Folds.{ors_at, at_ands}
use Rattle.meaning.proofs.Lattice.{at_anti, at_eq, at_trans, no_at, at_yes}
use Rattle.meaning.proofs.OneValue.{until_one, always_one}
use Rattle.meaning.proofs.Period.{above_n, under_n, period_below}
use Rattle.laws.specs.Laws.{Settles, Fills}
use Rattle.laws.proofs.Neutrals.{no_and, and_no, yes_and, or_yes, yes_or, no_or, not_yes, not_no}

module _ (B : Kind) where
  both_are : {x p : Ternary} {y q : B.Value} → p ≡ x → q ≡ y → Settles B x y → Settles B p q
  both_are e h s = subst₂ (Settles B) (sym e) (sym h) s

  s_and : (p r : Ternary) (q s : B.Value) → Settles B p q → Settles B r s → Settles B (both p r) (B.And q s)
  s_and ternary.No r q s h k = ap (λ z. B.And z s) h ∙ no_and B s
  s_and ternary.Lost ternary.No q s h k = ap (B.And q) k ∙ and_no B q
  s_and ternary.Lost ternary.Lost q s h k = tt
  s_and ternary.Lost ternary.Yes q s h k = tt
  s_and ternary.Yes r q s h k = both_are {x = r} {p = r} {y = s} {q = B.And q s} refl (ap (λ z. B.And z s) h ∙ yes_and B s) k

  s_or : (p r : Ternary) (q s : B.Value) → Settles B p q → Settles B r s → Settles B (either p r) (B.Or q s)
  s_or ternary.No r q s h k = both_are {x = r} {p = r} {y = s} {q = B.Or q s} refl (ap (λ z. B.Or z s) h ∙ no_or B s) k
  s_or ternary.Lost ternary.No q s h k = tt
  s_or ternary.Lost ternary.Lost q s h k = tt
  s_or ternary.Lost ternary.Yes q s h k = ap (B.Or q) k ∙ or_yes B q
  s_or ternary.Yes r q s h k = ap (λ z. B.Or z s) h ∙ yes_or B s

  s_not : (p : Ternary) (q : B.Value) → Settles B p q → Settles B (other p) (B.Not q)
  s_not ternary.No q h = ap B.Not h ∙ not_no B
  s_not ternary.Lost q h = tt
  s_not ternary.Yes q h = ap B.Not h ∙ not_yes B

  -- l and m: a lower line's values, with and without lost ones
  abbrev Along : Values three → Values B → Type 0
  Along l m = (t : ℕ) → Settles B (l t) (m t)

  s_ands : (l : Values three) (m : Values B) → Along l m → (t n : ℕ) → Settles B (ands three l t n) (ands B m t n)
  s_ands l m h t zero = refl
  s_ands l m h t (suc n) = s_and (l t) (ands three l (suc t) n) (m t) (ands B m (suc t) n) (h t) (s_ands l m h (suc t) n)

  s_ors : (l : Values three) (m : Values B) → Along l m → (n : ℕ) → Settles B (ors three l n) (ors B m n)
  s_ors l m h zero = refl
  s_ors l m h (suc n) = s_or (ors three l n) (l n) (ors B m n) (m n) (s_ors l m h n) (h n)

  s_before : (p : Ternary) (q : B.Value) → Settles B p q → (l : Values three) (m : Values B) → Along l m → Along (before three p l) (before B q m)
  s_before p q e l m h zero = e
  s_before p q e l m h (suc t) = h t

  s_since : (l r : Values three) (m n : Values B) → Along l m → Along r n → Along (since three l r) (since B m n)
  s_since l r m n hl hr t =
      s_ors (λ d. both (r d) (ands three l (suc d) (t - d))) (λ d. B.And (n d) (ands B m (suc d) (t - d)))
      (λ d. s_and (r d) (ands three l (suc d) (t - d)) (n d) (ands B m (suc d) (t - d)) (hr d) (s_ands l m hl (suc d) (t - d)))
      (suc t)

  under_no : (x : Ternary) (y : B.Value) → Settles B x y → AtMost three x ternary.No → AtMost B y B.No
  under_no ternary.No y s h = at_eq B s
  under_no ternary.Lost y s h = let z : ◌≡◌ {A = ℕ} 0 1 = cc in absurd (omega arith)
  under_no ternary.Yes y s h = let z : ◌≡◌ {A = ℕ} 0 1 = cc in absurd (omega arith)

  over_yes : (x : Ternary) (y : B.Value) → Settles B x y → AtMost three ternary.Yes x → AtMost B B.Yes y
  over_yes ternary.No y s h = let z : ◌≡◌ {A = ℕ} 0 1 = cc in absurd (omega arith)
  over_yes ternary.Lost y s h = let z : ◌≡◌ {A = ℕ} 0 1 = cc in absurd (omega arith)
  over_yes ternary.Yes y s h = at_eq B (sym s)

  module _ (v S : ℕ) (hv : 1 ≤ v) (l : Values three) (pl : Periodic three v S l) (m : Values B) (hl : Along l m) (t : ℕ) where
    s_always : (p : Ternary) (q : B.Value) → IsAlways three l t p → IsAlways B m t q → Settles B p q
    unfolding always_value
    s_always p q isp isq = go p isp (always_one three l t p (ands three l t (S + v)) isp (is_always three v S hv l pl t))
      where
        go : (p : Ternary) → IsAlways three l t p → p ≡ ands three l t (S + v) → Settles B p q
        go ternary.No is e =
            at_anti B
            (at_trans B (at_ands B m t (S + v) q (λ i _. under_n B m t q isq.under i))
            (at_eq B (subst (λ x. Settles B x (ands B m t (S + v))) (sym e) (s_ands l m hl t (S + v)))))
            (no_at B q)
        go ternary.Lost is e = tt
        go ternary.Yes is e = at_anti B (at_yes B q) (isq.greatest B.Yes (λ d h. over_yes (l d) (m d) (hl d) (is.under d h)))

    module _ (r : Values three) (pr : Periodic three v S r) (n : Values B) (hr : Along r n) where
      s_until : (p : Ternary) (q : B.Value) → IsUntil three l r t p → IsUntil B m n t q → Settles B p q
      unfolding until_value
      s_until p q isp isq = go p isp (until_one three l r t p (ors three term (S + v)) isp (is_until three v S hv l pl r pr t))
        where
          term : Values three
          term i = both (r (t + i)) (ands three l t i)

          full : Values B
          full i = B.And (n (t + i)) (ands B m t i)

          terms : Along term full
          terms i = s_and (r (t + i)) (ands three l t i) (n (t + i)) (ands B m t i) (hr (t + i)) (s_ands l m hl t i)

          go : (p : Ternary) → IsUntil three l r t p → p ≡ ors three term (S + v) → Settles B p q
          go ternary.No is e =
              at_anti B
              (isq.least B.No
              (λ d h.
              under_no (reach three l r t d) (reach B m n t d)
              (s_and (r d) (ands three l t (d - t)) (n d) (ands B m t (d - t)) (hr d) (s_ands l m hl t (d - t)))
              (is.above d h)))
              (no_at B q)
          go ternary.Lost is e = tt
          go ternary.Yes is e =
              at_anti B (at_yes B q)
              (at_trans B (at_eq B (sym (subst (λ x. Settles B x (ors B full (S + v))) (sym e) (s_ors term full terms (S + v)))))
              (ors_at B full (S + v) q (λ i _. above_n B m n t q isq.above i)))

      s_weak : (p : Ternary) (q : B.Value) → IsWeakUntil three l r t p → IsWeakUntil B m n t q → Settles B p q
      s_weak p q isp isq =
          both_are isp.is_or isq.is_or
          (s_or isp.until isp.always isq.until isq.always
          (s_until isp.until isq.until isp.is_until isq.is_until)
          (s_always isp.always isq.always isp.is_always isq.is_always))

  module _ (gapped : Word Ternary) (full : Word B.Value) (k S : ℕ) (f : ℕ → Values three) (g : ℕ → Values B)
      (rep : (a : ℕ) → a < k → Periodic three gapped.cycle S (f a)) (low : (a : ℕ) → a < k → Along (f a) (g a)) (t : ℕ) where
    row_settles : (x : Line) → Lower k x → ((i : ℕ) → x ≡ Signal i → Settles B (gapped.at i t) (full.at i t))
        → (p : Ternary) (q : B.Value) → Row three gapped x f t p → Row B full x g t q → Settles B p q
    row_settles (Const true) lo sig p q h j = both_are h j refl
    row_settles (Const false) lo sig p q h j = both_are h j refl
    row_settles (Signal i) lo sig p q h j = both_are h j (sig i refl)
    row_settles (Not a) lo sig p q h j = both_are h j (s_not (f a t) (g a t) (low a lo t))
    row_settles (And a b) lo sig p q h j = both_are h j (s_and (f a t) (f b t) (g a t) (g b t) (low a lo.0 t) (low b lo.1 t))
    row_settles (Or a b) lo sig p q h j = both_are h j (s_or (f a t) (f b t) (g a t) (g b t) (low a lo.0 t) (low b lo.1 t))
    row_settles (Next a) lo sig p q h j = both_are h j (low a lo (t + 1))
    row_settles (Until a b) lo sig p q h j =
        s_until gapped.cycle S gapped.sizes.3 (f a) (rep a lo.0) (g a) (low a lo.0) t (f b) (rep b lo.1) (g b) (low b lo.1) p q h j
    row_settles (WeakUntil a b) lo sig p q h j =
        s_weak gapped.cycle S gapped.sizes.3 (f a) (rep a lo.0) (g a) (low a lo.0) t (f b) (rep b lo.1) (g b) (low b lo.1) p q h j
    row_settles (Previous a) lo sig p q h j = both_are h j (s_before ternary.No B.No refl (f a) (g a) (low a lo) t)
    row_settles (WeakPrevious a) lo sig p q h j = both_are h j (s_before ternary.Yes B.Yes refl (f a) (g a) (low a lo) t)
    row_settles (Since a b) lo sig p q h j = both_are h j (s_since (f a) (f b) (g a) (g b) (low a lo.0) (low b lo.1) t)
    row_settles (WeakSince a b) lo sig p q h j =
        both_are h j
        (s_or (since three (f a) (f b) t) (ands three (f a) 0 (suc t)) (since B (g a) (g b) t) (ands B (g a) 0 (suc t))
        (s_since (f a) (f b) (g a) (g b) (low a lo.0) (low b lo.1) t) (s_ands (f a) (g a) (low a lo.0) 0 (suc t)))

  module _ (lines : List Line) (sheet : Sheet lines) (gapped : Word Ternary) (full : Word B.Value) (nam : HasSignals lines gapped.signals)
      (fill : Fills B lines gapped full) (f : ℕ → Values three) (vf : Valuation three gapped lines f) (g : ℕ → Values B) (vg : Valuation B full lines g) where
    settled : (n k : ℕ) → k < n → k < length lines → Along (f k) (g k)
    settled zero k h hk t = absurd (not-suc-le-zero h)
    settled (suc n) k h hk t =
        row_settles gapped full k (gapped.stem + pasts (line lines) k * gapped.cycle) f g
        (period_below three gapped (line lines) (length lines) sheet nam f vf k (omega arith))
        (λ a ha. settled n a (omega arith) (omega arith)) t
        (line lines k) (sheet k hk) (λ i e. fill k i hk e t) (f k t) (g k t) (vf k hk t) (vg k hk t)

pub filled : (B : Kind) (lines : List Line) → Sheet lines → (gapped : Word Ternary) (full : Word B.Value) → HasSignals lines gapped.signals → Fills B lines gapped full
    → (f : ℕ → Values three) → Valuation three gapped lines f → (g : ℕ → Values B) → Valuation B full lines g
    → (k : ℕ) → k < length lines → (t : ℕ) → Settles B (f k t) (g k t)
filled B lines sheet gapped full nam fill f vf g vg k hk t = settled B lines sheet gapped full nam fill f vf g vg (suc k) k (omega arith) hk t

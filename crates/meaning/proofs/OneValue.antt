-- A row has one value, and depends on the lower lines only.
use Rattle.std.proofs.Common.{◌≡◌, ℕ, zero, suc, ◌+◌, ◌<◌, List, length, sym, ap, ◌∙◌, ap₂, subst₂, not-suc-le-zero, arith}
use mathlib.Core.Path.{fun_ext}
use Rattle.recording.specs.Kind.{Kind}
use Rattle.recording.specs.Word.{Word}
use Rattle.sheet.specs.declared.line.Line.{Line}
use Rattle.sheet.specs.declared.line.Line.TheVariants.{Const, Signal, Not, And, Or, Next, Until, WeakUntil, Previous, WeakPrevious, Since, WeakSince}
use Rattle.sheet.specs.Table.{line, Lower, Sheet}
use Rattle.meaning.specs.Sheet.{Values, ands, since, before, IsUntil, IsAlways, IsWeakUntil, Row, Valuation}
use Rattle.meaning.specs.Theorems.{Unique}
use Rattle.meaning.proofs.Lattice.{at_anti}

module _ (K : Kind) where
  pub until_one : (l r : Values K) (t : ℕ) (p q : K.Value) → IsUntil K l r t p → IsUntil K l r t q → p ≡ q
  until_one l r t p q h k = at_anti K (h.least q k.above) (k.least p h.above)

  pub always_one : (l : Values K) (t : ℕ) (p q : K.Value) → IsAlways K l t p → IsAlways K l t q → p ≡ q
  always_one l t p q h k = at_anti K (k.greatest p h.under) (h.greatest q k.under)

  pub weak_one : (l r : Values K) (t : ℕ) (p q : K.Value) → IsWeakUntil K l r t p → IsWeakUntil K l r t q → p ≡ q
  weak_one l r t p q h k =
      h.is_or
      ∙ ap₂ K.Or (until_one l r t h.until k.until h.is_until k.is_until) (always_one l t h.always k.always h.is_always k.is_always)
      ∙ sym k.is_or

  module _ (word : Word K.Value) where
    pub row_moves : (x : Line) (k : ℕ) (f g : ℕ → Values K) (t : ℕ) (p : K.Value) → Lower k x → ((a : ℕ) → a < k → f a ≡ g a)
        → Row K word x f t p → Row K word x g t p
    row_moves (Const b) k f g t p low e h = h
    row_moves (Signal i) k f g t p low e h = h
    row_moves (Not a) k f g t p low e h = h ∙ ap (λ l. K.Not (l t)) (e a low)
    row_moves (And a b) k f g t p low e h = h ∙ ap₂ (λ l r. K.And (l t) (r t)) (e a low.0) (e b low.1)
    row_moves (Or a b) k f g t p low e h = h ∙ ap₂ (λ l r. K.Or (l t) (r t)) (e a low.0) (e b low.1)
    row_moves (Next a) k f g t p low e h = h ∙ ap (λ l. l (t + 1)) (e a low)
    row_moves (Until a b) k f g t p low e h = subst₂ (λ l r. IsUntil K l r t p) (e a low.0) (e b low.1) h
    row_moves (WeakUntil a b) k f g t p low e h = subst₂ (λ l r. IsWeakUntil K l r t p) (e a low.0) (e b low.1) h
    row_moves (Previous a) k f g t p low e h = h ∙ ap (λ l. before K K.No l t) (e a low)
    row_moves (WeakPrevious a) k f g t p low e h = h ∙ ap (λ l. before K K.Yes l t) (e a low)
    row_moves (Since a b) k f g t p low e h = h ∙ ap₂ (λ l r. since K l r t) (e a low.0) (e b low.1)
    row_moves (WeakSince a b) k f g t p low e h = h ∙ ap₂ (λ l r. K.Or (since K l r t) (ands K l 0 (suc t))) (e a low.0) (e b low.1)

    pub row_one : (x : Line) (f : ℕ → Values K) (t : ℕ) (p q : K.Value) → Row K word x f t p → Row K word x f t q → p ≡ q
    row_one (Const b) f t p q h k = h ∙ sym k
    row_one (Signal i) f t p q h k = h ∙ sym k
    row_one (Not a) f t p q h k = h ∙ sym k
    row_one (And a b) f t p q h k = h ∙ sym k
    row_one (Or a b) f t p q h k = h ∙ sym k
    row_one (Next a) f t p q h k = h ∙ sym k
    row_one (Until a b) f t p q h k = until_one (f a) (f b) t p q h k
    row_one (WeakUntil a b) f t p q h k = weak_one (f a) (f b) t p q h k
    row_one (Previous a) f t p q h k = h ∙ sym k
    row_one (WeakPrevious a) f t p q h k = h ∙ sym k
    row_one (Since a b) f t p q h k = h ∙ sym k
    row_one (WeakSince a b) f t p q h k = h ∙ sym k

    module _ (lines : List Line) (sheet : Sheet lines) (f g : ℕ → Values K) (vf : Valuation K word lines f) (vg : Valuation K word lines g) where
      agree : (n k : ℕ) → k < n → k < length lines → f k ≡ g k
      agree zero k h hk = absurd (not-suc-le-zero h)
      agree (suc n) k h hk =
          fun_ext
          (λ t.
          row_one (line lines k) g t (f k t) (g k t)
          (row_moves (line lines k) k f g t (f k t) (sheet k hk) (λ a ha. agree n a (omega arith) (omega arith)) (vf k hk t))
          (vg k hk t))

pub unique : (K : Kind) → Unique K
unique K word lines sheet f g vf vg k hk t = ap (λ l. l t) (agree K word lines sheet f g vf vg (suc k) k (omega arith) hk)

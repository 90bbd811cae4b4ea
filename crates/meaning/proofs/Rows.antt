-- What is written for a line is its value.
use Rattle.std.proofs.Common.{◌≡◌, ℕ, zero, suc, ◌+◌, ◌-◌, ◌*◌, ◌<◌, ◌≤◌, ◌⊎◌, List, length, get_or, sym, refl, ap, ◌∙◌, subst, ap₂, inl, inr, not-suc-le-zero, add-zero, add-suc, suc-add, arith}
use Rattle.std.proofs.lemmas.Bool.Decides.{nat_tests}
use Rattle.std.proofs.lemmas.Nat.{mul-add-lt, mul-le}
use Rattle.recording.specs.Kind.{Kind}
use Rattle.recording.specs.Word.{Word, meant}
use Rattle.sheet.specs.declared.line.Line.{Line}
use Rattle.sheet.specs.declared.line.Line.TheVariants.{Const, Signal, Not, And, Or, Next, Until, WeakUntil, Previous, WeakPrevious, Since, WeakSince}
use Rattle.sheet.specs.Table.{line, Lower, Sheet, past, pasts}
use Rattle.meaning.specs.Sheet.{Values, Periodic, ands, since, before, Row, Valuation}
use Rattle.meaning.specs.Judging.{pass, TwoPasses, Future}
use Rattle.meaning.proofs.Lattice.{at_anti, and_right, no_at}
use Rattle.meaning.proofs.Period.{since_zero, since_carries, weak_carries}
use Rattle.meaning.specs.Cells.{column, Fills}
use Rattle.meaning.specs.Columns.{following, carried, written}
use Rattle.meaning.specs.Verdict.{horizon}
use Rattle.meaning.proofs.Sweeps.{following_below}

following_inside : (back n t : ℕ) → t + 1 < n → following back n t ≡ t + 1
following_inside back n t h = grind (arith, nat_tests)

following_last : (back n t : ℕ) → n ≤ t + 1 → following back n t ≡ back
following_last back n t h = grind (arith, nat_tests)

split : (m n : ℕ) → (m < n) ⊎ (n ≤ m)
split m zero = inr (omega arith)
split zero (suc n) = inl (omega arith)
split (suc m) (suc n) = elim (split m n) [ inl h ↦ inl (omega arith) | inr h ↦ inr (omega arith) ]

module _ (K : Kind) where
  and_no : (p : K.Value) → K.And p K.No ≡ K.No
  and_no p = at_anti K (and_right K p K.No) (no_at K (K.And p K.No))

  pass_cong : (l r l' r' : Values K) (m t : ℕ) (y z : K.Value) → ((s : ℕ) → t ≤ s → s < t + m → l s ≡ l' s) → ((s : ℕ) → t ≤ s → s < t + m → r s ≡ r' s)
      → y ≡ z → pass K l r t m y ≡ pass K l' r' t m z
  pass_cong l r l' r' zero t y z el er e = e
  pass_cong l r l' r' (suc m) t y z el er e =
      ap₂ K.Or (er t (omega arith) (omega arith))
      (ap₂ K.And (el t (omega arith) (omega arith))
      (pass_cong l r l' r' m (suc t) y z (λ s h₁ h₂. el s (omega arith) (omega arith)) (λ s h₁ h₂. er s (omega arith) (omega arith)) e))

  carried_cong : (l r l' r' : Values K) (z : K.Value) (m : ℕ) → ((s : ℕ) → s < m → l s ≡ l' s) → ((s : ℕ) → s < m → r s ≡ r' s)
      → carried K l r z m ≡ carried K l' r' z m
  carried_cong l r l' r' z zero el er = refl
  carried_cong l r l' r' z (suc m) el er =
      ap₂ K.Or (er m (omega arith))
      (ap₂ K.And (el m (omega arith)) (carried_cong l r l' r' z m (λ s h. el s (omega arith)) (λ s h. er s (omega arith))))

  before_cong : (z : K.Value) (l l' : Values K) (t : ℕ) → ((s : ℕ) → s < t → l s ≡ l' s) → before K z l t ≡ before K z l' t
  before_cong z l l' zero e = refl
  before_cong z l l' (suc t) e = e t (omega arith)

  -- two passes give what TwoPasses tells
  passed : (l r y : Values K) (down : (t : ℕ) → y t ≡ K.Or (r t) (K.And (l t) (y (suc t)))) (m t : ℕ) → pass K l r t m (y (t + m)) ≡ y t
  passed l r y down zero t = ap y (add-zero t)
  passed l r y down (suc m) t =
      ap (λ z. K.Or (r t) (K.And (l t) z)) (ap (λ i. pass K l r (suc t) m (y i)) (add-suc t m ∙ sym (suc-add t m)) ∙ passed l r y down m (suc t))
      ∙ sym (down t)

  two_passes : (l r y : Values K) (S v n t : ℕ) (z : K.Value) → n ≡ S + v → t < n → TwoPasses K l r y S v z
      → pass K l r t (n - t) (pass K l r S (n - S) z) ≡ y t
  two_passes l r y S v n t z en ht two =
      let a : n - S ≡ v = omega arith in
      let b : t + (n - t) ≡ n = omega arith in
      ap (pass K l r t (n - t)) (ap (λ m. pass K l r S m z) a ∙ sym two.at_steady ∙ sym two.again ∙ ap y (sym en ∙ sym b))
      ∙ passed l r y two.down (n - t) t

  since_is : (l r : Values K) (t : ℕ) → carried K l r K.No (suc t) ≡ since K l r t
  since_is l r zero = ap (K.Or (r 0)) (and_no (l 0)) ∙ K.or_no (r 0) ∙ sym (since_zero K l r)
  since_is l r (suc t) = ap (λ z. K.Or (r (suc t)) (K.And (l (suc t)) z)) (since_is l r t) ∙ sym (since_carries K l r t)

  weak_is : (l r : Values K) (t : ℕ) → carried K l r K.Yes (suc t) ≡ K.Or (since K l r t) (ands K l 0 (suc t))
  weak_is l r zero = ap (λ z. K.Or z (K.And (l 0) K.Yes)) (sym (since_zero K l r))
  weak_is l r (suc t) = ap (λ z. K.Or (r (suc t)) (K.And (l (suc t)) z)) (weak_is l r t) ∙ sym (weak_carries K l r t)

  module _ (word : Word K.Value) (back n : ℕ) (hb : back < n) where
    -- only the samples below n of the lower lines count
    pub written_cong : (k : ℕ) (x : Line) → Lower k x → (f g : ℕ → Values K) → ((a : ℕ) → a < k → (s : ℕ) → s < n → f a s ≡ g a s)
        → (t : ℕ) → t < n → written K word back n x f t ≡ written K word back n x g t
    written_cong k (Const b) low f g e t ht = refl
    written_cong k (Signal i) low f g e t ht = refl
    written_cong k (Not a) low f g e t ht = ap K.Not (e a low t ht)
    written_cong k (And a b) low f g e t ht = ap₂ K.And (e a low.0 t ht) (e b low.1 t ht)
    written_cong k (Or a b) low f g e t ht = ap₂ K.Or (e a low.0 t ht) (e b low.1 t ht)
    written_cong k (Next a) low f g e t ht = e a low (following back n t) (following_below back n t hb)
    written_cong k (Until a b) low f g e t ht =
        pass_cong (f a) (f b) (g a) (g b) (n - t) t _ _ (λ s h₁ h₂. e a low.0 s (omega arith)) (λ s h₁ h₂. e b low.1 s (omega arith))
        (pass_cong (f a) (f b) (g a) (g b) (n - back) back _ _ (λ s h₁ h₂. e a low.0 s (omega arith)) (λ s h₁ h₂. e b low.1 s (omega arith)) refl)
    written_cong k (WeakUntil a b) low f g e t ht =
        pass_cong (f a) (f b) (g a) (g b) (n - t) t _ _ (λ s h₁ h₂. e a low.0 s (omega arith)) (λ s h₁ h₂. e b low.1 s (omega arith))
        (pass_cong (f a) (f b) (g a) (g b) (n - back) back _ _ (λ s h₁ h₂. e a low.0 s (omega arith)) (λ s h₁ h₂. e b low.1 s (omega arith)) refl)
    written_cong k (Previous a) low f g e t ht = before_cong K.No (f a) (g a) t (λ s h. e a low s (omega arith))
    written_cong k (WeakPrevious a) low f g e t ht = before_cong K.Yes (f a) (g a) t (λ s h. e a low s (omega arith))
    written_cong k (Since a b) low f g e t ht =
        carried_cong (f a) (f b) (g a) (g b) K.No (suc t) (λ s h. e a low.0 s (omega arith)) (λ s h. e b low.1 s (omega arith))
    written_cong k (WeakSince a b) low f g e t ht =
        carried_cong (f a) (f b) (g a) (g b) K.Yes (suc t) (λ s h. e a low.0 s (omega arith)) (λ s h. e b low.1 s (omega arith))

    -- what is written from the lower lines' values is the line's value
    module _ (k : ℕ) (f : ℕ → Values K) (en : n ≡ back + word.cycle) (rep : (a : ℕ) → a < k → Periodic K word.cycle back (f a)) (y : Values K) where
      next_is : (a : ℕ) → a < k → (t : ℕ) → t < n → f a (following back n t) ≡ f a (t + 1)
      next_is a ha t ht =
          elim (split (t + 1) n) [
            | inl h ↦ ap (f a) (following_inside back n t h)
            | inr h ↦ ap (f a) (following_last back n t h) ∙ sym (rep a ha back (omega arith)) ∙ ap (f a) (let u : back + word.cycle ≡ t + 1 = omega arith in u)
          ]

      pub written_is : (x : Line) → Lower k x → Future K word x f y back → (t : ℕ) → t < n → Row K word x f t (y t) → written K word back n x f t ≡ y t
      written_is (Const b) low fut t ht row = sym row
      written_is (Signal i) low fut t ht row = sym row
      written_is (Not a) low fut t ht row = sym row
      written_is (And a b) low fut t ht row = sym row
      written_is (Or a b) low fut t ht row = sym row
      written_is (Next a) low fut t ht row = next_is a low t ht ∙ sym row
      written_is (Until a b) low fut t ht row = two_passes (f a) (f b) y back word.cycle n t K.No en ht fut
      written_is (WeakUntil a b) low fut t ht row = two_passes (f a) (f b) y back word.cycle n t K.Yes en ht fut
      written_is (Previous a) low fut t ht row = sym row
      written_is (WeakPrevious a) low fut t ht row = sym row
      written_is (Since a b) low fut t ht row = since_is (f a) (f b) t ∙ sym row
      written_is (WeakSince a b) low fut t ht row = weak_is (f a) (f b) t ∙ sym row

module _ (K : Kind) (word : Word K.Value) (back n : ℕ) {V : Type 0} {means : V → K.Value} {w k lo hi : ℕ} {before after : List V} where
  -- what is written for a line, told by its variant
  pub as_line : {x y : Line} → x ≡ y → Fills means w k before (λ d t. written K word back n y (λ a. column means before w a d) t) lo hi after
      → Fills means w k before (λ d t. written K word back n x (λ a. column means before w a d) t) lo hi after
  as_line {x} {y} e f = subst (λ z. Fills means w k before (λ d t. written K word back n z (λ a. column means before w a d) t) lo hi after) (sym e) f

pub past_most : (x : Line) → past x ≤ 1
past_most (Const b) = omega arith
past_most (Signal i) = omega arith
past_most (Not a) = omega arith
past_most (And a b) = omega arith
past_most (Or a b) = omega arith
past_most (Next a) = omega arith
past_most (Until a b) = omega arith
past_most (WeakUntil a b) = omega arith
past_most (Previous a) = omega arith
past_most (WeakPrevious a) = omega arith
past_most (Since a b) = omega arith
past_most (WeakSince a b) = omega arith

module _ (K : Kind) {V : Type 0} (means : V → K.Value) (lines : List Line) (w : Word V) (n : ℕ) where
  -- the columns below k mean every valuation
  abbrev pub Columns : ℕ → List V → Type 0
  Columns k cells =
      (f : ℕ → Values K) → Valuation K (meant means w) lines f → (a : ℕ) → a < k → (t : ℕ) → t < n → (d : V) → column means cells (length lines) a d t ≡ f a t

-- cells behind the table stay
pub further_more : {V M : Type 0} {means : V → M} {width k n : ℕ} {y : V → ℕ → M} {cells after : List V} → k < width → Fills means width k cells y 0 n after
    → (i : ℕ) → width * n ≤ i → (d : V) → get_or after i d ≡ get_or cells i d
further_more {k = k} hk fills i h d = fills.others d i (λ t _ ht e. omega (arith, mul-add-lt t _ k _ ht hk))

-- how many samples there are at most
pub few_samples : (stem count cycle : ℕ) → stem ≤ 256 → count ≤ 63 → cycle ≤ 64 → stem + count * cycle + cycle ≤ 4352
few_samples stem count cycle a b c = omega (arith, mul-le count cycle 63 64 b c)

-- the first line does not look back
first_past : (x : Line) → Lower 0 x → past x ≡ 0
first_past (Const b) low = refl
first_past (Signal i) low = refl
first_past (Not a) low = refl
first_past (And a b) low = refl
first_past (Or a b) low = refl
first_past (Next a) low = refl
first_past (Until a b) low = refl
first_past (WeakUntil a b) low = refl
first_past (Previous a) low = absurd (not-suc-le-zero low)
first_past (WeakPrevious a) low = absurd (not-suc-le-zero low)
first_past (Since a b) low = absurd (not-suc-le-zero low.0)
first_past (WeakSince a b) low = absurd (not-suc-le-zero low.0)

pub pasts_below : (x : ℕ → Line) → Lower 0 (x 0) → (n : ℕ) → pasts x (suc n) ≤ n
pasts_below x low zero = omega (arith, first_past (x 0) low)
pasts_below x low (suc n) = omega (arith, pasts_below x low n, past_most (x (suc n)))

-- a sheet has at most so many samples
pub horizon_most : {V : Type 0} (lines : List Line) (w : Word V) → Sheet lines → 0 < length lines → length lines ≤ 64 → horizon lines w ≤ 4352
horizon_most lines w sheet some few =
    let one : suc (length lines - 1) ≡ length lines = omega arith in
    let most : pasts (line lines) (length lines) ≤ length lines - 1 =
    subst (λ n. pasts (line lines) n ≤ length lines - 1) one (pasts_below (line lines) (sheet 0 some) (length lines - 1)) in
    few_samples w.stem (pasts (line lines) (length lines)) w.cycle (omega arith) (omega arith) (omega arith)

-- Every sheet has a valuation: it is built line by line, and an until is an or over finitely many samples.
use Rattle.std.proofs.Common.{◌≡◌, ℕ, zero, suc, ◌+◌, ◌-◌, ◌*◌, ◌<◌, ◌≤◌, length, sym, refl, subst, inl, inr, not-suc-le-zero, arith}
use native.Mathlib.Decide.{dec_lt}
use Rattle.recording.specs.Kind.{Kind, AtMost}
use Rattle.recording.specs.Word.{Word}
use Rattle.sheet.specs.declared.line.Line.{Line}
use Rattle.sheet.specs.declared.line.Line.TheVariants.{Const, Signal, Not, And, Or, Next, Until, WeakUntil, Previous, WeakPrevious, Since, WeakSince}
use Rattle.sheet.specs.Table.{line, Lower, Named, pasts}
use Rattle.meaning.specs.Sheet.{Values, ands, ors, since, before, constant, IsUntil, IsAlways, Row, Periodic}
use Rattle.meaning.specs.Theorems.{Exists}
use Rattle.meaning.proofs.Lattice.{at_eq, at_trans, and_mono}
use Rattle.meaning.proofs.Folds.{below_suc, ands_at, at_ands, ands_fewer, at_ors, ors_at}
use Rattle.meaning.proofs.OneValue.{row_moves}
use Rattle.meaning.proofs.Period.{n_above, above_n, n_under, under_n, period_below}

-- what holds below a horizon, and is handed on from n - v to n, holds everywhere
pub below_all : (P : ℕ → Type 0) (v h : ℕ) → 1 ≤ v → v ≤ h → ((n : ℕ) → n < h → P n) → ((n : ℕ) → h ≤ n → P (n - v) → P n) → (n : ℕ) → P n
below_all P v h hv vh first on n = go (suc n) n (omega arith)
  where
    go : (m n : ℕ) → n < m → P n
    go zero n k = absurd (not-suc-le-zero k)
    go (suc m) n k = elim (dec_lt n h) [ yes a ↦ first n a | no b ↦ on n (omega arith) (go m (n - v) (omega arith)) ]

module _ (K : Kind) (v S : ℕ) (hv : 1 ≤ v) where
  -- the or over the samples before the horizon
  unfoldable pub until_value : Values K → Values K → Values K
  until_value l r t = ors K (λ n. K.And (r (t + n)) (ands K l t n)) (S + v)

  unfoldable pub always_value : Values K → Values K
  always_value l t = ands K l t (S + v)

  module _ (l : Values K) (pl : Periodic K v S l) where
    earlier : (t n : ℕ) → S + v ≤ n → l (t + n) ≡ l (t + (n - v))
    earlier t n h =
        let e : t + n ≡ t + (n - v) + v = omega arith in
        rw e (pl (t + (n - v)) (omega arith))

    pub is_always : (t : ℕ) → IsAlways K l t (always_value l t)
    unfolding always_value
    is_always t =
        record {
          under =
              n_under K l t (ands K l t (S + v))
              (below_all (λ n. AtMost K (ands K l t (S + v)) (l (t + n))) v (S + v) hv (omega arith)
              (λ n h. ands_at K l t (S + v) n h)
              (λ n h k. subst (λ x. AtMost K (ands K l t (S + v)) x) (sym (earlier t n h)) k));
          greatest = λ q h. at_ands K l t (S + v) q (λ i _. under_n K l t q h i);
        }

    module _ (r : Values K) (pr : Periodic K v S r) where
      earlier_r : (t n : ℕ) → S + v ≤ n → r (t + n) ≡ r (t + (n - v))
      earlier_r t n h =
          let e : t + n ≡ t + (n - v) + v = omega arith in
          rw e (pr (t + (n - v)) (omega arith))

      pub is_until : (t : ℕ) → IsUntil K l r t (until_value l r t)
      unfolding until_value
      is_until t =
          let g : Values K = λ n. K.And (r (t + n)) (ands K l t n) in
          let p : K.Value = ors K g (S + v) in
          record {
            above =
                n_above K l r t p
                (below_all (λ n. AtMost K (g n) p) v (S + v) hv (omega arith)
                (λ n h. at_ors K g (S + v) n h)
                (λ n h k. at_trans K (and_mono K (at_eq K (earlier_r t n h)) (ands_fewer K l t (n - v) n (omega arith))) k));
            least = λ q h. ors_at K g (S + v) q (λ i _. above_n K l r t q h i);
          }

module _ (K : Kind) (word : Word K.Value) where
  module _ (k S : ℕ) (f : ℕ → Values K) (rep : (a : ℕ) → a < k → Periodic K word.cycle S (f a)) where
    unfoldable pub row_value : (x : Line) → Lower k x → (y : Values K) × ((t : ℕ) → Row K word x f t (y t))
    row_value (Const b) low = (λ t. constant K b, λ t. refl)
    row_value (Signal i) low = (λ t. word.at i t, λ t. refl)
    row_value (Not a) low = (λ t. K.Not (f a t), λ t. refl)
    row_value (And a b) low = (λ t. K.And (f a t) (f b t), λ t. refl)
    row_value (Or a b) low = (λ t. K.Or (f a t) (f b t), λ t. refl)
    row_value (Next a) low = (λ t. f a (t + 1), λ t. refl)
    row_value (Until a b) low = (
      until_value K word.cycle S word.sizes.3 (f a) (f b),
      λ t. is_until K word.cycle S word.sizes.3 (f a) (rep a low.0) (f b) (rep b low.1) t,
    )
    row_value (WeakUntil a b) low = (
      λ t. K.Or (until_value K word.cycle S word.sizes.3 (f a) (f b) t) (always_value K word.cycle S word.sizes.3 (f a) t),
      λ t.
          record {
            until = until_value K word.cycle S word.sizes.3 (f a) (f b) t;
            always = always_value K word.cycle S word.sizes.3 (f a) t;
            is_until = is_until K word.cycle S word.sizes.3 (f a) (rep a low.0) (f b) (rep b low.1) t;
            is_always = is_always K word.cycle S word.sizes.3 (f a) (rep a low.0) t;
            is_or = refl;
          },
    )
    row_value (Previous a) low = (λ t. before K K.No (f a) t, λ t. refl)
    row_value (WeakPrevious a) low = (λ t. before K K.Yes (f a) t, λ t. refl)
    row_value (Since a b) low = (λ t. since K (f a) (f b) t, λ t. refl)
    row_value (WeakSince a b) low = (λ t. K.Or (since K (f a) (f b) t) (ands K (f a) 0 (suc t)), λ t. refl)

-- f with y at n
unfoldable pub put : {A : Type 0} → (ℕ → A) → ℕ → A → ℕ → A
put f zero y zero = y
put f zero y (suc k) = f (suc k)
put f (suc n) y zero = f 0
put f (suc n) y (suc k) = put (λ a. f (suc a)) n y k

pub put_same : {A : Type 0} (f : ℕ → A) (n : ℕ) (y : A) → put f n y n ≡ y
unfolding put
put_same f zero y = refl
put_same f (suc n) y = put_same (λ a. f (suc a)) n y

pub put_below : {A : Type 0} (f : ℕ → A) (n : ℕ) (y : A) (a : ℕ) → a < n → put f n y a ≡ f a
unfolding put
put_below f zero y a h = absurd (not-suc-le-zero h)
put_below f (suc n) y zero h = refl
put_below f (suc n) y (suc a) h = put_below (λ a. f (suc a)) n y a (omega arith)

module _ (K : Kind) (word : Word K.Value) (x : ℕ → Line) where
  unfoldable pub build : (n : ℕ) → ((k : ℕ) → k < n → Lower k (x k)) → ((k : ℕ) → k < n → Named word.signals (x k))
      → (f : ℕ → Values K) × ((k : ℕ) → k < n → (t : ℕ) → Row K word (x k) f t (f k t))
  build zero low nam = (λ k t. K.No, λ k h. absurd (not-suc-le-zero h))
  build (suc n) low nam = more (build n (λ k h. low k (omega arith)) (λ k h. nam k (omega arith)))
    where
      more : (f : ℕ → Values K) × ((k : ℕ) → k < n → (t : ℕ) → Row K word (x k) f t (f k t))
          → (f : ℕ → Values K) × ((k : ℕ) → k < suc n → (t : ℕ) → Row K word (x k) f t (f k t))
      more (f, rows) =
          let S : ℕ = word.stem + pasts x n * word.cycle in
          let made : (y : Values K) × ((t : ℕ) → Row K word (x n) f t (y t)) =
          row_value K word n S f
          (period_below K word x n (λ k h. low k (omega arith)) (λ k h. nam k (omega arith)) f rows n (omega arith))
          (x n) (low n (omega arith)) in (
            put f n made.0,
            λ k h t.
                elim (below_suc k n h) [
                  | inl a ↦
                      subst (λ (p : Values K). Row K word (x k) (put f n made.0) t (p t)) (sym (put_below f n made.0 k a))
                      (row_moves K word (x k) k f (put f n made.0) t (f k t) (low k h) (λ b hb. sym (put_below f n made.0 b (omega arith))) (rows k a t))
                  | inr e ↦
                      subst (λ m. Row K word (x m) (put f n made.0) t (put f n made.0 m t)) (sym e)
                      (subst (λ (p : Values K). Row K word (x n) (put f n made.0) t (p t)) (sym (put_same f n made.0))
                      (row_moves K word (x n) n f (put f n made.0) t (made.0 t) (low n (omega arith)) (λ b hb. sym (put_below f n made.0 b hb)) (made.1 t)))
                ],
          )

unfoldable pub exists : (K : Kind) → Exists K
exists K word lines sheet nam = build K word (line lines) (length lines) sheet nam

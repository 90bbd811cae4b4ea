-- A periodic sequence is told by its stem and one cycle; so is the run that shows a valuation.
use Rattle.std.proofs.Common.{◌≡◌, ℕ, zero, suc, ◌+◌, ◌-◌, ◌*◌, ◌<◌, ◌≤◌, Bool, true, false, ◌&&◌, ◌||◌, ap, ◌∙◌, suc-add, arith}
use native.Mathlib.Decide.{dec_lt}
use Rattle.recording.specs.Kinds.{two}
use Rattle.recording.specs.Word.{Word}
use Rattle.sheet.specs.declared.line.Line.{Line}
use Rattle.sheet.specs.declared.line.Line.TheVariants.{Since, WeakSince}
use Rattle.sheet.specs.Table.{Lower, Named, past, pasts}
use Rattle.meaning.specs.Sheet.{Values, Periodic, before, Row}
use Rattle.meaning.proofs.Period.{period_below, row_period, carries_periodic}
use Rattle.laws.specs.Laws.{shown}
use Rattle.laws.specs.Runs.{Bits, endless, row_at}
use Rattle.machine.specs.Translation.{name}
use Rattle.laws.proofs.Behave.{row_behaves}
use Rattle.laws.proofs.Endless.{row_in, row_same}

-- a since's variable repeats as early as the since
back_carried : (start : Bool) (l r z : Values two) (v S : ℕ) → 1 ≤ v → Periodic two v S l → Periodic two v S r
    → ((t : ℕ) → z t ≡ (r t || (l t && before two start z t))) → Periodic two v (S + v) (before two start z)
back_carried start l r z v S hv pl pr e =
    carries_periodic two v S (before two false l) (before two false r) (late l pl) (late r pr) (before two start z) (λ t. e t)
  where
    late : (y : Values two) → Periodic two v S y → Periodic two v (suc S) (before two false y)
    late y p zero h = absurd (omega arith)
    late y p (suc t) h = ap (before two false y) (suc-add t v) ∙ p t (omega arith)

module _ (word : Word Bool) (k S : ℕ) (stem : word.stem ≤ S) (f : ℕ → Values two) (rep : (a : ℕ) → a < k → Periodic two word.cycle S (f a)) (y : Values two) where
  shown_period : (x : Line) → Lower k x → Named word.signals x → ((t : ℕ) → Row two word x f t (y t))
      → Periodic two word.cycle (S + past x * word.cycle) (shown two x y)
  shown_period (Since a b) low nam row = λ t h.
      back_carried false (f a) (f b) y word.cycle S word.sizes.3 (rep a low.0) (rep b low.1) (row_behaves word (Since a b) f y row) t (omega arith)
  shown_period (WeakSince a b) low nam row = λ t h.
      back_carried true (f a) (f b) y word.cycle S word.sizes.3 (rep a low.0) (rep b low.1) (row_behaves word (WeakSince a b) f y row) t (omega arith)
  shown_period x low nam row = row_period two word k S stem f rep y x low nam row

pasts_le : (x : ℕ → Line) (v k n : ℕ) → k ≤ n → pasts x k * v ≤ pasts x n * v
pasts_le x v k zero h = let e : k ≡ 0 = omega arith in rw e (omega arith)
pasts_le x v k (suc n) h =
    elim (dec_lt k (suc n)) [
      | yes a ↦ omega (arith, pasts_le x v k n (omega arith))
      | no a ↦ (let e : k ≡ suc n = omega arith in rw e (omega arith))
    ]

-- rows that show the values to one cycle past the steady sample show them at every position
module _ (word : Word Bool) (x : ℕ → Line) (n r : ℕ) (low : (k : ℕ) → k < n → Lower k (x k)) (nam : (k : ℕ) → k < n → Named word.signals (x k))
    (f : ℕ → Values two) (val : (k : ℕ) → k < n → (t : ℕ) → Row two word (x k) f t (f k t)) where
  abbrev S : ℕ
  S = word.stem + pasts x n * word.cycle

  abbrev N : ℕ
  N = S + word.cycle

  pub lasso : (rows : Bits) (k : ℕ) → k < n → ((t : ℕ) → t < N → rows (name x n r k) t ≡ shown two (x k) (f k) t)
      → (t : ℕ) → endless N S rows (name x n r k) t ≡ shown two (x k) (f k) t
  lasso rows k hk shows t =
      shows (row_at N S t) (row_in N S turns t)
      ∙ row_same N S turns (shown two (x k) (f k))
      (λ s h.
      ap (λ d. shown two (x k) (f k) (s + d)) cycle
      ∙ shown_period word k (word.stem + pasts x k * word.cycle) (omega arith) f (period_below two word x n low nam f val k (omega arith)) (f k)
      (x k) (low k hk) (nam k hk) (val k hk) s (omega (arith, pasts_le x word.cycle (suc k) n hk)))
      t
    where
      turns : S < N
      turns = omega (arith, word.sizes.3)

      cycle : N - S ≡ word.cycle
      cycle = omega arith

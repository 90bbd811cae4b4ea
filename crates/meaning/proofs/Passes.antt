-- An until's value at the steady sample is one pass over a cycle.
use Rattle.std.proofs.Common.{◌≡◌, ℕ, zero, suc, ◌+◌, ◌-◌, ◌*◌, ◌<◌, ◌≤◌, length, sym, ap, ◌∙◌, subst, ap₂, not-suc-le-zero, add-zero, add-suc, suc-add, arith}
use Rattle.recording.specs.Kind.{Kind, AtMost}
use Rattle.recording.specs.Word.{Word}
use Rattle.sheet.specs.declared.line.Line.{Line}
use Rattle.sheet.specs.declared.line.Line.TheVariants.{Const, Signal, Not, And, Or, Next, Until, WeakUntil, Previous, WeakPrevious, Since, WeakSince}
use Rattle.sheet.specs.Table.{line, Lower, pasts}
use Rattle.meaning.specs.Sheet.{Values, ands, ors, IsUntil, IsAlways, IsWeakUntil, Row, Periodic}
use Rattle.meaning.specs.Judging.{pass, Future, Judged}
use Rattle.meaning.proofs.Lattice.{at_anti, at_eq, at_refl, at_trans, and_left, and_right, at_and, or_left, or_right, or_at, no_at, at_yes, and_mono, step_more}
use Rattle.meaning.proofs.Folds.{ands_at, at_ands, ands_fewer, ors_at, and_ors}
use Rattle.meaning.proofs.OneValue.{until_one}
use Rattle.meaning.proofs.Period.{n_above, above_n, n_under, under_n, period_below}
use Rattle.meaning.proofs.Build.{below_all, is_until, until_value}

module _ (K : Kind) where
  -- a pass is c or (d and z)
  pass_from : (l r : Values K) (t n : ℕ) (z : K.Value) → pass K l r t n z ≡ K.Or (pass K l r t n K.No) (K.And (ands K l t n) z)
  pass_from l r t zero z = sym (K.or_comm K.No (K.And K.Yes z) ∙ K.or_no (K.And K.Yes z) ∙ K.and_comm K.Yes z ∙ K.and_yes z)
  pass_from l r t (suc n) z =
      ap (λ y. K.Or (r t) (K.And (l t) y)) (pass_from l r (suc t) n z)
      ∙ step_more K (r t) (l t) (pass K l r (suc t) n K.No) (ands K l (suc t) n) z

  -- right at t + i, and left before
  abbrev cand : Values K → Values K → ℕ → ℕ → K.Value
  cand l r t i = K.And (r (t + i)) (ands K l t i)

  cand_zero : (l r : Values K) (t : ℕ) → cand l r t 0 ≡ r t
  cand_zero l r t = K.and_yes (r (t + 0)) ∙ ap r (add-zero t)

  cand_suc : (l r : Values K) (t i : ℕ) → cand l r t (suc i) ≡ K.And (l t) (cand l r (suc t) i)
  cand_suc l r t i =
      ap (λ s. K.And (r s) (K.And (l t) (ands K l (suc t) i))) (add-suc t i ∙ sym (suc-add t i))
      ∙ sym (K.and_assoc (r (suc t + i)) (l t) (ands K l (suc t) i))
      ∙ ap (λ y. K.And y (ands K l (suc t) i)) (K.and_comm (r (suc t + i)) (l t))
      ∙ K.and_assoc (l t) (r (suc t + i)) (ands K l (suc t) i)

  -- what is above every candidate, guarded by a, is above the pass
  pass_at : (l r : Values K) (n t : ℕ) (a p : K.Value) → ((i : ℕ) → i < n → AtMost K (K.And a (cand l r t i)) p) → AtMost K (K.And a (pass K l r t n K.No)) p
  pass_at l r zero t a p h = at_trans K (and_right K a K.No) (no_at K p)
  pass_at l r (suc n) t a p h =
      at_trans K (at_eq K (K.and_over_or a (r t) (K.And (l t) (pass K l r (suc t) n K.No))))
      (or_at K
      (at_trans K (at_eq K (ap (K.And a) (sym (cand_zero l r t)))) (h 0 (omega arith)))
      (at_trans K (at_eq K (sym (K.and_assoc a (l t) (pass K l r (suc t) n K.No))))
      (pass_at l r n (suc t) (K.And a (l t)) p
      (λ i k.
      at_trans K (at_eq K (K.and_assoc a (l t) (cand l r (suc t) i) ∙ ap (K.And a) (sym (cand_suc l r t i)))) (h (suc i) (omega arith))))))

  at_pass : (l r : Values K) (n t i : ℕ) → i < n → AtMost K (cand l r t i) (pass K l r t n K.No)
  at_pass l r zero t i h = absurd (not-suc-le-zero h)
  at_pass l r (suc n) t zero h = at_trans K (at_eq K (cand_zero l r t)) (or_left K (r t) (K.And (l t) (pass K l r (suc t) n K.No)))
  at_pass l r (suc n) t (suc i) h =
      at_trans K (at_eq K (cand_suc l r t i))
      (at_trans K (and_mono K (at_refl K (l t)) (at_pass l r n (suc t) i (omega arith))) (or_right K (r t) (K.And (l t) (pass K l r (suc t) n K.No))))

  module _ (v S : ℕ) (hv : 1 ≤ v) (l r : Values K) (pl : Periodic K v S l) (pr : Periodic K v S r) where
    earlier : (t n : ℕ) → S ≤ t → v ≤ n → (y : Values K) → Periodic K v S y → y (t + n) ≡ y (t + (n - v))
    earlier t n ht h y py =
        let e : t + n ≡ t + (n - v) + v = omega arith in
        rw e (py (t + (n - v)) (omega arith))

    -- at S one cycle is enough
    until_pass : (p : K.Value) → IsUntil K l r S p → p ≡ pass K l r S v K.No
    until_pass p is =
        at_anti K
        (is.least (pass K l r S v K.No)
        (n_above K l r S (pass K l r S v K.No)
        (below_all (λ n. AtMost K (cand l r S n) (pass K l r S v K.No)) v v hv (omega arith)
        (λ n h. at_pass l r v S n h)
        (λ n h k. at_trans K (and_mono K (at_eq K (earlier S n (omega arith) h r pr)) (ands_fewer K l S (n - v) n (omega arith))) k))))
        (at_trans K (at_and K (at_yes K (pass K l r S v K.No)) (at_refl K (pass K l r S v K.No)))
        (pass_at l r v S K.Yes p (λ i h. at_trans K (and_right K K.Yes (cand l r S i)) (above_n K l r S p is.above i))))

    always_pass : (p : K.Value) → IsAlways K l S p → p ≡ ands K l S v
    always_pass p is =
        at_anti K
        (at_ands K l S v p (λ i h. under_n K l S p is.under i))
        (is.greatest (ands K l S v)
        (n_under K l S (ands K l S v)
        (below_all (λ n. AtMost K (ands K l S v) (l (S + n))) v v hv (omega arith)
        (λ n h. ands_at K l S v n h)
        (λ n h k. subst (AtMost K (ands K l S v)) (sym (earlier S n (omega arith) h l pl)) k))))

    weak_pass : (p : K.Value) → IsWeakUntil K l r S p → p ≡ pass K l r S v K.Yes
    weak_pass p is =
        is.is_or ∙ ap₂ K.Or (until_pass is.until is.is_until) (always_pass is.always is.is_always ∙ sym (K.and_yes (ands K l S v)))
        ∙ sym (pass_from l r S v K.Yes)

    -- each value follows from the next
    until_down : (t : ℕ) (p q : K.Value) → IsUntil K l r t p → IsUntil K l r (suc t) q → p ≡ K.Or (r t) (K.And (l t) q)
    unfolding until_value
    until_down t p q is is' =
        at_anti K
        (is.least (K.Or (r t) (K.And (l t) q)) (n_above K l r t (K.Or (r t) (K.And (l t) q)) each))
        (or_at K
        (at_trans K (at_eq K (sym (cand_zero l r t))) (above_n K l r t p is.above 0))
        (at_trans K
        (at_eq K
        (ap (K.And (l t)) (until_one K l r (suc t) q (ors K (λ n. cand l r (suc t) n) (S + v)) is' (is_until K v S hv l pl r pr (suc t)))
        ∙ and_ors K (l t) (λ n. cand l r (suc t) n) (S + v)))
        (ors_at K (λ n. K.And (l t) (cand l r (suc t) n)) (S + v) p
        (λ n _. at_trans K (at_eq K (sym (cand_suc l r t n))) (above_n K l r t p is.above (suc n))))))
      where
        each : (n : ℕ) → AtMost K (cand l r t n) (K.Or (r t) (K.And (l t) q))
        each zero = at_trans K (at_eq K (cand_zero l r t)) (or_left K (r t) (K.And (l t) q))
        each (suc n) =
            at_trans K (at_eq K (cand_suc l r t n))
            (at_trans K (and_mono K (at_refl K (l t)) (above_n K l r (suc t) q is'.above n)) (or_right K (r t) (K.And (l t) q)))

    always_down : (t : ℕ) (p q : K.Value) → IsAlways K l t p → IsAlways K l (suc t) q → p ≡ K.And (l t) q
    always_down t p q is is' =
        at_anti K
        (at_and K (is.under t (omega arith)) (is'.greatest p (λ d h. is.under d (omega arith))))
        (is.greatest (K.And (l t) q) (n_under K l t (K.And (l t) q) each))
      where
        each : (n : ℕ) → AtMost K (K.And (l t) q) (l (t + n))
        each zero = rw (add-zero t) (and_left K (l t) q)
        each (suc n) =
            rw (add-suc t n, ← suc-add t n) (at_trans K (and_right K (l t) q) (under_n K l (suc t) q is'.under n))

    weak_down : (t : ℕ) (p q : K.Value) → IsWeakUntil K l r t p → IsWeakUntil K l r (suc t) q → p ≡ K.Or (r t) (K.And (l t) q)
    weak_down t p q is is' =
        is.is_or
        ∙ ap₂ K.Or (until_down t is.until is'.until is.is_until is'.is_until) (always_down t is.always is'.always is.is_always is'.is_always)
        ∙ K.or_assoc (r t) (K.And (l t) is'.until) (K.And (l t) is'.always)
        ∙ ap (K.Or (r t)) (sym (K.and_over_or (l t) is'.until is'.always) ∙ ap (K.And (l t)) (sym is'.is_or))

  module _ (word : Word K.Value) (k S : ℕ) (f : ℕ → Values K) (rep : (a : ℕ) → a < k → Periodic K word.cycle S (f a)) (y : Values K) (own : Periodic K word.cycle S y) where
    pub future : (x : Line) → Lower k x → ((t : ℕ) → Row K word x f t (y t)) → Future K word x f y S
    future (Const b) low row = tt
    future (Signal i) low row = tt
    future (Not a) low row = tt
    future (And a b) low row = tt
    future (Or a b) low row = tt
    future (Next a) low row = tt
    future (Until a b) low row =
        record {
          at_steady = until_pass word.cycle S word.sizes.3 (f a) (f b) (rep a low.0) (rep b low.1) (y S) (row S);
          again = own S (omega arith);
          down = λ t. until_down word.cycle S word.sizes.3 (f a) (f b) (rep a low.0) (rep b low.1) t (y t) (y (suc t)) (row t) (row (suc t));
        }
    future (WeakUntil a b) low row =
        record {
          at_steady = weak_pass word.cycle S word.sizes.3 (f a) (f b) (rep a low.0) (rep b low.1) (y S) (row S);
          again = own S (omega arith);
          down = λ t. weak_down word.cycle S word.sizes.3 (f a) (f b) (rep a low.0) (rep b low.1) t (y t) (y (suc t)) (row t) (row (suc t));
        }
    future (Previous a) low row = tt
    future (WeakPrevious a) low row = tt
    future (Since a b) low row = tt
    future (WeakSince a b) low row = tt

pub judged : (K : Kind) → Judged K
judged K word lines sheet nam f val k hk =
    let n : ℕ = length lines in
    let rep : (a : ℕ) → a < n → Periodic K word.cycle (word.stem + pasts (line lines) n * word.cycle) (f a) = period_below K word (line lines) n sheet nam f val n (omega arith) in
    future K word k (word.stem + pasts (line lines) n * word.cycle) f (λ a ha. rep a (omega arith)) (f k) (rep k hk) (line lines k) (sheet k hk) (val k hk)

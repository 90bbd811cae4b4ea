-- What a line's own gate does, and that it bounds the line's value.
use Rattle.std.proofs.Common.{◌≡◌, ℕ, zero, suc, ◌+◌, Bool, true, false, not, ◌&&◌, ◌||◌, sym, refl, ap, ◌∙◌, ap₂, inl, inr, add-zero, add-suc, suc-add, add-one, arith}
use Rattle.std.proofs.Math.Bool.{and-false, or-false}
use Rattle.std.proofs.lemmas.Bool.{and_parts, and_from, or_cases, or_left, or_right}
use Rattle.recording.specs.Kind.{AtMost}
use Rattle.recording.specs.Kinds.{two}
use Rattle.recording.specs.Word.{Word}
use Rattle.sheet.specs.declared.line.Line.{Line}
use Rattle.sheet.specs.declared.line.Line.TheVariants.{Const, Signal, Not, And, Or, Next, Until, WeakUntil, Previous, WeakPrevious, Since, WeakSince}
use Rattle.meaning.specs.Sheet.{Values, ands, since, before, constant, IsUntil, IsAlways, IsWeakUntil, Row}
use Rattle.meaning.proofs.Period.{n_above, above_n, n_under, under_n, since_zero, since_carries, weak_carries}
use Rattle.laws.specs.Runs.{Often}
use Rattle.machine.specs.Signs.{Sign, plus, minus}
use Rattle.laws.proofs.Bits.{Bound, bound_plus, bound_minus, by_plus, by_minus, bound_same, bound_eq, not_bound, and_bound, or_bound, Unrolls, comes, until_claims, weak_claims, weak_comes}
use Rattle.laws.proofs.Reading.{up, at_most, reaches_until}
use Rattle.machine.proofs.Signing.{Operands}

-- y are the bits of a line's own gate, h those of the other lines' gates
abbrev pub Behaves : Word Bool → Line → (ℕ → Values two) → Values two → Type 0
Behaves word (Const b) h y = (t : ℕ) → y t ≡ b
Behaves word (Signal i) h y = (t : ℕ) → y t ≡ word.at i t
Behaves word (Not a) h y = (t : ℕ) → y t ≡ not (h a t)
Behaves word (And a b) h y = (t : ℕ) → y t ≡ (h a t && h b t)
Behaves word (Or a b) h y = (t : ℕ) → y t ≡ (h a t || h b t)
Behaves word (Next a) h y = (t : ℕ) → y t ≡ h a (suc t)
Behaves word (Until a b) h y = Unrolls (h a) (h b) y
Behaves word (WeakUntil a b) h y = Unrolls (h a) (h b) y
Behaves word (Previous a) h y = (t : ℕ) → y t ≡ before two false (h a) t
Behaves word (WeakPrevious a) h y = (t : ℕ) → y t ≡ before two true (h a) t
Behaves word (Since a b) h y = (t : ℕ) → y t ≡ (h b t || (h a t && before two false y t))
Behaves word (WeakSince a b) h y = (t : ℕ) → y t ≡ (h b t || (h a t && before two true y t))

abbrev pub At : Sign → Sign → Type 0 → Type 0
At plus plus X = X
At plus minus X = Unit {0}
At minus plus X = Unit {0}
At minus minus X = X

-- the pair of a line with sign s
abbrev pub FairLine : Line → Sign → (ℕ → Values two) → Values two → Type 0
FairLine (Until a b) s h y = At plus s (Often y (h b))
FairLine (WeakUntil a b) s h y = At minus s (Often (h a) y)
FairLine _ s h y = Unit {0}

before_bound : (s : Sign) (start : Bool) (y z : Values two) → ((t : ℕ) → Bound s (y t) (z t)) → (t : ℕ) → Bound s (before two start y t) (before two start z t)
before_bound s start y z b zero = bound_same s start start refl
before_bound s start y z b (suc t) = b t

since_bound : (s : Sign) (start : Bool) (l r y l' r' z : Values two)
    → ((t : ℕ) → y t ≡ (r t || (l t && before two start y t)))
    → ((t : ℕ) → z t ≡ (r' t || (l' t && before two start z t)))
    → ((t : ℕ) → Bound s (l t) (l' t)) → ((t : ℕ) → Bound s (r t) (r' t)) → (t : ℕ) → Bound s (y t) (z t)
since_bound s start l r y l' r' z ey ez bl br zero =
    bound_eq s (ey 0) (ez 0)
    (or_bound s (r 0) (l 0 && start) (r' 0) (l' 0 && start) (br 0) (and_bound s (l 0) start (l' 0) start (bl 0) (bound_same s start start refl)))
since_bound s start l r y l' r' z ey ez bl br (suc t) =
    bound_eq s (ey (suc t)) (ez (suc t))
    (or_bound s (r (suc t)) (l (suc t) && y t) (r' (suc t)) (l' (suc t) && z t) (br (suc t))
    (and_bound s (l (suc t)) (y t) (l' (suc t)) (z t) (bl (suc t)) (since_bound s start l r y l' r' z ey ez bl br t)))

until_bound : (s : Sign) (l r y l' r' z : Values two) → Unrolls l r y → ((t : ℕ) → IsUntil two l' r' t (z t)) → At plus s (Often y r)
    → ((t : ℕ) → Bound s (l t) (l' t)) → ((t : ℕ) → Bound s (r t) (r' t)) → (t : ℕ) → Bound s (y t) (z t)
until_bound plus l r y l' r' z u is fair bl br t =
    bound_plus
    (λ e.
    let w = comes l r y u fair t e in
    reaches_until l' r' t (z t) (is t) (w.0, w.1, by_plus (br w.0) w.2, λ s a b. by_plus (bl s) (w.3 s a b)))
until_bound minus l r y l' r' z u is fair bl br t =
    bound_minus (until_claims l' r' l r y u (λ t. by_minus (bl t)) (λ t. by_minus (br t)) t (z t) (is t))

weak_bound : (s : Sign) (l r y l' r' z : Values two) → Unrolls l r y → ((t : ℕ) → IsWeakUntil two l' r' t (z t)) → At minus s (Often l y)
    → ((t : ℕ) → Bound s (l t) (l' t)) → ((t : ℕ) → Bound s (r t) (r' t)) → (t : ℕ) → Bound s (y t) (z t)
weak_bound plus l r y l' r' z u is fair bl br t =
    bound_plus (weak_comes l' r' l r y u (λ t. by_plus (bl t)) (λ t. by_plus (br t)) t (z t) (is t))
weak_bound minus l r y l' r' z u is fair bl br t =
    bound_minus (weak_claims l' r' l r y u fair (λ t. by_minus (bl t)) (λ t. by_minus (br t)) t (z t) (is t))

pub same_bit : (p q : Bool) → (p ≡ true → q ≡ true) → (q ≡ true → p ≡ true) → p ≡ q
same_bit true q a b = sym (a refl)
same_bit false true a b = b refl
same_bit false false a b = refl

-- the values of a line do what its gate does
until_unrolls : (l r z : Values two) → ((t : ℕ) → IsUntil two l r t (z t)) → Unrolls l r z
until_unrolls l r z is t =
    same_bit (z t) (r t || (l t && z (suc t)))
    (up (z t) (r t || (l t && z (suc t))) ((is t).least (r t || (l t && z (suc t))) (n_above two l r t (r t || (l t && z (suc t))) each)))
    (λ e. elim (or_cases (r t) (l t && z (suc t)) e) [ inl a ↦ now a | inr b ↦ next (and_parts (l t) (z (suc t)) b) ])
  where
    each : (n : ℕ) → AtMost two (r (t + n) && ands two l t n) (r t || (l t && z (suc t)))
    each zero =
        at_most (r (t + 0) && true) (r t || (l t && z (suc t)))
        (λ e. or_left (r t) (l t && z (suc t)) (ap r (sym (add-zero t)) ∙ (and_parts (r (t + 0)) true e).0))
    each (suc n) =
        at_most (r (t + suc n) && (l t && ands two l (suc t) n)) (r t || (l t && z (suc t)))
        (λ e.
        let b = and_parts (r (t + suc n)) (l t && ands two l (suc t) n) e in
        let c = and_parts (l t) (ands two l (suc t) n) b.1 in
        or_right (r t) (l t && z (suc t))
        (and_from (l t) (z (suc t)) c.0
        (up (r (suc t + n) && ands two l (suc t) n) (z (suc t)) (above_n two l r (suc t) (z (suc t)) (is (suc t)).above n)
        (and_from (r (suc t + n)) (ands two l (suc t) n) (ap r (suc-add t n ∙ sym (add-suc t n)) ∙ b.0) c.1))))

    now : r t ≡ true → z t ≡ true
    now e =
        up (r (t + 0) && true) (z t) (above_n two l r t (z t) (is t).above 0) (and_from (r (t + 0)) true (ap r (add-zero t) ∙ e) refl)

    next : (l t ≡ true) × (z (suc t) ≡ true) → z t ≡ true
    next h =
        up (z (suc t)) (z t)
        ((is (suc t)).least (z t)
        (n_above two l r (suc t) (z t)
        (λ n.
        at_most (r (suc t + n) && ands two l (suc t) n) (z t)
        (λ e.
        let b = and_parts (r (suc t + n)) (ands two l (suc t) n) e in
        up (r (t + suc n) && (l t && ands two l (suc t) n)) (z t) (above_n two l r t (z t) (is t).above (suc n))
        (and_from (r (t + suc n)) (l t && ands two l (suc t) n)
        (ap r (add-suc t n ∙ sym (suc-add t n)) ∙ b.0)
        (and_from (l t) (ands two l (suc t) n) h.0 b.1))))))
        h.1

always_unrolls : (l z : Values two) → ((t : ℕ) → IsAlways two l t (z t)) → (t : ℕ) → z t ≡ (l t && z (suc t))
always_unrolls l z is t =
    same_bit (z t) (l t && z (suc t))
    (λ e.
    and_from (l t) (z (suc t)) (up (z t) (l t) ((is t).under t (omega arith)) e)
    (up (z t) (z (suc t)) ((is (suc t)).greatest (z t) (λ d h. (is t).under d (omega arith))) e))
    (λ e.
    let b = and_parts (l t) (z (suc t)) e in
    up true (z t)
    ((is t).greatest true
    (n_under two l t true (λ n. at_most true (l (t + n)) (λ _. each b n))))
    refl)
  where
    each : (l t ≡ true) × (z (suc t) ≡ true) → (n : ℕ) → l (t + n) ≡ true
    each b zero = ap l (add-zero t) ∙ b.0
    each b (suc n) =
        ap l (add-suc t n ∙ sym (suc-add t n)) ∙ up (z (suc t)) (l (suc t + n)) (under_n two l (suc t) (z (suc t)) (is (suc t)).under n) b.1

regroup : (a b c d : Bool) → ((a || (b && c)) || (b && d)) ≡ (a || (b && (c || d)))
regroup true b c d = refl
regroup false true c d = refl
regroup false false c d = refl

weak_unrolls : (l r z : Values two) → ((t : ℕ) → IsWeakUntil two l r t (z t)) → Unrolls l r z
weak_unrolls l r z is t =
    (is t).is_or
    ∙ ap₂ ◌||◌ (until_unrolls l r (λ s. (is s).until) (λ s. (is s).is_until) t) (always_unrolls l (λ s. (is s).always) (λ s. (is s).is_always) t)
    ∙ regroup (r t) (l t) (is (suc t)).until (is (suc t)).always
    ∙ ap (λ p. r t || (l t && p)) (sym (is (suc t)).is_or)

since_behaves : (l r z : Values two) → ((t : ℕ) → z t ≡ since two l r t) → (t : ℕ) → z t ≡ (r t || (l t && before two false z t))
since_behaves l r z e zero = e 0 ∙ since_zero two l r ∙ sym (ap (λ b. r 0 || b) (and-false (l 0)) ∙ or-false (r 0))
since_behaves l r z e (suc t) = e (suc t) ∙ since_carries two l r t ∙ ap (λ b. r (suc t) || (l (suc t) && b)) (sym (e t))

weak_since_behaves : (l r z : Values two) → ((t : ℕ) → z t ≡ (since two l r t || ands two l 0 (suc t))) → (t : ℕ)
    → z t ≡ (r t || (l t && before two true z t))
weak_since_behaves l r z e zero = e 0 ∙ ap (λ b. b || (l 0 && true)) (since_zero two l r)
weak_since_behaves l r z e (suc t) = e (suc t) ∙ weak_carries two l r t ∙ ap (λ b. r (suc t) || (l (suc t) && b)) (sym (e t))

constant_is : (b : Bool) → constant two b ≡ b
constant_is true = refl
constant_is false = refl

module _ (word : Word Bool) where
  pub row_behaves : (x : Line) (f : ℕ → Values two) (z : Values two) → ((t : ℕ) → Row two word x f t (z t)) → Behaves word x f z
  row_behaves (Const b) f z row = λ t. row t ∙ constant_is b
  row_behaves (Next a) f z row = λ t. row t ∙ ap (f a) (add-one t)
  row_behaves (Until a b) f z row = λ t. until_unrolls (f a) (f b) z row t
  row_behaves (WeakUntil a b) f z row = λ t. weak_unrolls (f a) (f b) z row t
  row_behaves (Since a b) f z row = λ t. since_behaves (f a) (f b) z row t
  row_behaves (WeakSince a b) f z row = λ t. weak_since_behaves (f a) (f b) z row t
  row_behaves _ f z row = λ t. row t

  pub line_bound : (x : Line) (s : Sign) (h f : ℕ → Values two) (y z : Values two) → Behaves word x h y → ((t : ℕ) → Row two word x f t (z t)) → FairLine x s h y
      → Operands x s (λ a s'. (t : ℕ) → Bound s' (h a t) (f a t)) → (t : ℕ) → Bound s (y t) (z t)
  line_bound (Const b) s h f y z be row fair ops t = bound_same s (y t) (z t) (be t ∙ sym (row_behaves (Const b) f z row t))
  line_bound (Signal i) s h f y z be row fair ops t = bound_same s (y t) (z t) (be t ∙ sym (row t))
  line_bound (Not a) s h f y z be row fair ops t = bound_eq s (be t) (row t) (not_bound s (h a t) (f a t) (ops t))
  line_bound (And a b) s h f y z be row fair ops t =
      bound_eq s (be t) (row t) (and_bound s (h a t) (h b t) (f a t) (f b t) (ops.0 t) (ops.1 t))
  line_bound (Or a b) s h f y z be row fair ops t =
      bound_eq s (be t) (row t) (or_bound s (h a t) (h b t) (f a t) (f b t) (ops.0 t) (ops.1 t))
  line_bound (Next a) s h f y z be row fair ops t = bound_eq s (be t) (row_behaves (Next a) f z row t) (ops (suc t))
  line_bound (Until a b) s h f y z be row fair ops t = until_bound s (h a) (h b) y (f a) (f b) z be row fair ops.0 ops.1 t
  line_bound (WeakUntil a b) s h f y z be row fair ops t = weak_bound s (h a) (h b) y (f a) (f b) z be row fair ops.0 ops.1 t
  line_bound (Previous a) s h f y z be row fair ops t = bound_eq s (be t) (row t) (before_bound s false (h a) (f a) ops t)
  line_bound (WeakPrevious a) s h f y z be row fair ops t = bound_eq s (be t) (row t) (before_bound s true (h a) (f a) ops t)
  line_bound (Since a b) s h f y z be row fair ops t =
      since_bound s false (h a) (h b) y (f a) (f b) z be (row_behaves (Since a b) f z row) ops.0 ops.1 t
  line_bound (WeakSince a b) s h f y z be row fair ops t =
      since_bound s true (h a) (h b) y (f a) (f b) z be (row_behaves (WeakSince a b) f z row) ops.0 ops.1 t

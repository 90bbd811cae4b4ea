-- The translation's test for signs is right.
use Rattle.std.proofs.Common.{◌≡◌, ℕ, zero, suc, ◌+◌, ◌<◌, Bool, true, ◌&&◌, ◌||◌, eqb, ◌⊎◌, List, length, sym, refl, ap, ◌∙◌, subst, inl, inr, zero-add, arith}
use mathlib.Core.Bool.{false≢true}
use Rattle.sheet.specs.declared.line.Line.{Line}
use Rattle.sheet.specs.declared.line.Line.TheVariants.{Const, Signal, Not, And, Or, Next, Until, WeakUntil, Previous, WeakPrevious, Since, WeakSince}
use Rattle.sheet.specs.Table.{line, Lower, Sheet}
use Rattle.meaning.specs.Sheet.{rule_of}
use Rattle.std.proofs.lemmas.Bool.{eqb-true, and_parts, or_cases}
use Rattle.machine.specs.Signs.{Sign, plus, minus, opposite, HandsOn, HasSign, the_rule, negated, handed_on}
use Rattle.machine.specs.Translation.{hands, signed, has, SignsAre}
use Rattle.machine.proofs.Signing.{Operands, either_eq, opposite_twice, closed, rule_plus}

hands_on : (y : Line) (s : Sign) (a : ℕ) (P : ℕ → Sign → Type 0) → Operands y s P → HandsOn y a → P a s
hands_on (Const b) s a P p h = absurd h
hands_on (Signal i) s a P p h = absurd h
hands_on (Not b) s a P p h = absurd h
hands_on (Next b) s a P p h = subst (λ z. P z s) (sym h) p
hands_on (Previous b) s a P p h = subst (λ z. P z s) (sym h) p
hands_on (WeakPrevious b) s a P p h = subst (λ z. P z s) (sym h) p
hands_on _ s a P p h = elim h [ inl e ↦ subst (λ z. P z s) (sym e) p.0 | inr e ↦ subst (λ z. P z s) (sym e) p.1 ]

module _ (x : ℕ → Line) (n r : ℕ) where
  one : (a b : ℕ) (q : Bool) → (eqb a b && q) ≡ true → (a ≡ b) × (q ≡ true)
  one a b q e = let w = and_parts (eqb a b) q e in (eqb-true a b w.0, w.1)

  two : (a b c : ℕ) (q : Bool) → ((eqb a b || eqb a c) && q) ≡ true → ((a ≡ b) ⊎ (a ≡ c)) × (q ≡ true)
  two a b c q e = let w = and_parts (eqb a b || eqb a c) q e in (either_eq a b c w.0, w.1)

  from_line : (k : ℕ) → k < n → (y : Line) → x k ≡ y → (own : Sign → Bool) → ((s : Sign) → own s ≡ true → HasSign x n r k s)
      → (a : ℕ) (s : Sign) → hands y own a s ≡ true → HasSign x n r a s
  from_line k hk (Const b) e own ih a s h = absurd (false≢true h)
  from_line k hk (Signal i) e own ih a s h = absurd (false≢true h)
  from_line k hk (Not b) e own ih a s h =
      let w = one a b (own (opposite s)) h in
      subst (HasSign x n r a) (opposite_twice s) (negated k a (opposite s) hk (ih (opposite s) w.1) (e ∙ ap Not (sym w.0)))
  from_line k hk (And b c) e own ih a s h = let w = two a b c (own s) h in handed_on k a s hk (ih s w.1) (subst (λ y. HandsOn y a) (sym e) w.0)
  from_line k hk (Or b c) e own ih a s h = let w = two a b c (own s) h in handed_on k a s hk (ih s w.1) (subst (λ y. HandsOn y a) (sym e) w.0)
  from_line k hk (Next b) e own ih a s h = let w = one a b (own s) h in handed_on k a s hk (ih s w.1) (subst (λ y. HandsOn y a) (sym e) w.0)
  from_line k hk (Until b c) e own ih a s h = let w = two a b c (own s) h in handed_on k a s hk (ih s w.1) (subst (λ y. HandsOn y a) (sym e) w.0)
  from_line k hk (WeakUntil b c) e own ih a s h = let w = two a b c (own s) h in handed_on k a s hk (ih s w.1) (subst (λ y. HandsOn y a) (sym e) w.0)
  from_line k hk (Previous b) e own ih a s h = let w = one a b (own s) h in handed_on k a s hk (ih s w.1) (subst (λ y. HandsOn y a) (sym e) w.0)
  from_line k hk (WeakPrevious b) e own ih a s h = let w = one a b (own s) h in handed_on k a s hk (ih s w.1) (subst (λ y. HandsOn y a) (sym e) w.0)
  from_line k hk (Since b c) e own ih a s h = let w = two a b c (own s) h in handed_on k a s hk (ih s w.1) (subst (λ y. HandsOn y a) (sym e) w.0)
  from_line k hk (WeakSince b c) e own ih a s h = let w = two a b c (own s) h in handed_on k a s hk (ih s w.1) (subst (λ y. HandsOn y a) (sym e) w.0)

  to_relation : (m k : ℕ) → k + m ≡ n → (a : ℕ) (s : Sign) → signed x r k m a s ≡ true → HasSign x n r a s
  to_relation zero k e a plus h = subst (λ z. HasSign x n r z plus) (sym (eqb-true a r h)) the_rule
  to_relation zero k e a minus h = absurd (false≢true h)
  to_relation (suc m) k e a s h =
      elim (or_cases (signed x r (suc k) m a s) (hands (x k) (signed x r (suc k) m k) a s) h) [
        | inl q ↦ to_relation m (suc k) (omega arith) a s q
        | inr q ↦ from_line k (omega arith) (x k) refl (signed x r (suc k) m k) (λ s' q'. to_relation m (suc k) (omega arith) k s' q') a s q
      ]

  from_relation : (low : (k : ℕ) → k < n → Lower k (x k)) (a : ℕ) (s : Sign) → HasSign x n r a s → has x n r a s ≡ true
  from_relation low a s the_rule = rule_plus x r n low
  from_relation low a s (negated k b s' hk d e) =
      subst (λ y. Operands y s' (λ j s''. has x n r j s'' ≡ true)) e (closed x r n low k hk s' (from_relation low k s' d))
  from_relation low a s (handed_on k b s' hk d h) =
      hands_on (x k) s' b (λ j s''. has x n r j s'' ≡ true) (closed x r n low k hk s' (from_relation low k s' d)) h

pub signs_are : (lines : List Line) → Sheet lines → SignsAre lines
signs_are lines sheet k s = (
  to_relation (line lines) (length lines) (rule_of lines) (length lines) 0 (zero-add (length lines)) k s,
  from_relation (line lines) (length lines) (rule_of lines) sheet k s,
)

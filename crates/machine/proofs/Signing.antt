-- Signs go down: a line hands its signs to its operands.
use Rattle.std.proofs.Common.{◌≡◌, ℕ, zero, suc, ◌+◌, ◌-◌, ◌<◌, ◌≤◌, Bool, true, ◌&&◌, ◌||◌, eqb, ◌⊎◌, sym, refl, ap, ◌∙◌, subst, inl, inr, add-zero, add-suc, suc-add, zero-add, arith}
use mathlib.Core.Bool.{false≢true}
use Rattle.sheet.specs.declared.line.Line.{Line}
use Rattle.sheet.specs.declared.line.Line.TheVariants.{Const, Signal, Not, And, Or, Next, Until, WeakUntil, Previous, WeakPrevious, Since, WeakSince}
use Rattle.sheet.specs.Table.{Lower}
use Rattle.std.proofs.lemmas.Bool.{eqb-true, eq-eqb, and_parts, and_from, or_cases, or_left, or_right}
use Rattle.machine.specs.Signs.{Sign, plus, minus, opposite}
use Rattle.machine.specs.Translation.{hands, signed, has, used}

-- P of each operand of a line with sign s, and the sign that it is given
abbrev pub Operands : Line → Sign → (ℕ → Sign → Type 0) → Type 0
Operands (Const b) s P = Unit {0}
Operands (Signal i) s P = Unit {0}
Operands (Not a) s P = P a (opposite s)
Operands (And a b) s P = P a s × P b s
Operands (Or a b) s P = P a s × P b s
Operands (Next a) s P = P a s
Operands (Until a b) s P = P a s × P b s
Operands (WeakUntil a b) s P = P a s × P b s
Operands (Previous a) s P = P a s
Operands (WeakPrevious a) s P = P a s
Operands (Since a b) s P = P a s × P b s
Operands (WeakSince a b) s P = P a s × P b s

pub eqb_same : (a : ℕ) → eqb a a ≡ true
eqb_same a = eq-eqb a a refl

pub either_eq : (a b c : ℕ) → (eqb a b || eqb a c) ≡ true → (a ≡ b) ⊎ (a ≡ c)
either_eq a b c e = elim (or_cases (eqb a b) (eqb a c) e) [ inl h ↦ inl (eqb-true a b h) | inr h ↦ inr (eqb-true a c h) ]

one_lower : (k a b : ℕ) (q : Bool) → b < k → (eqb a b && q) ≡ true → a < k
one_lower k a b q h e = let w : a ≡ b = eqb-true a b (and_parts (eqb a b) q e).0 in omega arith

two_lower : (k a b c : ℕ) (q : Bool) → (b < k) × (c < k) → ((eqb a b || eqb a c) && q) ≡ true → a < k
two_lower k a b c q h e = let w : (a ≡ b) ⊎ (a ≡ c) = either_eq a b c (and_parts (eqb a b || eqb a c) q e).0 in omega (arith, h.0, h.1)

hands_lower : (y : Line) (k : ℕ) → Lower k y → (own : Sign → Bool) (a : ℕ) (s : Sign) → hands y own a s ≡ true → a < k
hands_lower (Const b) k low own a s e = absurd (false≢true e)
hands_lower (Signal i) k low own a s e = absurd (false≢true e)
hands_lower (Not b) k low own a s e = one_lower k a b (own (opposite s)) low e
hands_lower (And b c) k low own a s e = two_lower k a b c (own s) low e
hands_lower (Or b c) k low own a s e = two_lower k a b c (own s) low e
hands_lower (Next b) k low own a s e = one_lower k a b (own s) low e
hands_lower (Until b c) k low own a s e = two_lower k a b c (own s) low e
hands_lower (WeakUntil b c) k low own a s e = two_lower k a b c (own s) low e
hands_lower (Previous b) k low own a s e = one_lower k a b (own s) low e
hands_lower (WeakPrevious b) k low own a s e = one_lower k a b (own s) low e
hands_lower (Since b c) k low own a s e = two_lower k a b c (own s) low e
hands_lower (WeakSince b c) k low own a s e = two_lower k a b c (own s) low e

pub opposite_twice : (s : Sign) → opposite (opposite s) ≡ s
opposite_twice plus = refl
opposite_twice minus = refl

to_one : (b : ℕ) (q : Bool) → q ≡ true → (eqb b b && q) ≡ true
to_one b q e = and_from (eqb b b) q (eqb_same b) e

to_left : (b c : ℕ) (q : Bool) → q ≡ true → ((eqb b b || eqb b c) && q) ≡ true
to_left b c q e = and_from (eqb b b || eqb b c) q (or_left (eqb b b) (eqb b c) (eqb_same b)) e

to_right : (b c : ℕ) (q : Bool) → q ≡ true → ((eqb c b || eqb c c) && q) ≡ true
to_right b c q e = and_from (eqb c b || eqb c c) q (or_right (eqb c b) (eqb c c) (eqb_same c)) e

-- a line with sign s hands it on
handed : (y : Line) (own : Sign → Bool) (s : Sign) → own s ≡ true → Operands y s (λ a s'. hands y own a s' ≡ true)
handed (Const b) own s e = tt
handed (Signal i) own s e = tt
handed (Not b) own s e = to_one b (own (opposite (opposite s))) (ap own (opposite_twice s) ∙ e)
handed (And b c) own s e = (to_left b c (own s) e, to_right b c (own s) e)
handed (Or b c) own s e = (to_left b c (own s) e, to_right b c (own s) e)
handed (Next b) own s e = to_one b (own s) e
handed (Until b c) own s e = (to_left b c (own s) e, to_right b c (own s) e)
handed (WeakUntil b c) own s e = (to_left b c (own s) e, to_right b c (own s) e)
handed (Previous b) own s e = to_one b (own s) e
handed (WeakPrevious b) own s e = to_one b (own s) e
handed (Since b c) own s e = (to_left b c (own s) e, to_right b c (own s) e)
handed (WeakSince b c) own s e = (to_left b c (own s) e, to_right b c (own s) e)

pub operands_map : (y : Line) (k : ℕ) → Lower k y → (s : Sign) (P Q : ℕ → Sign → Type 0) → ((a : ℕ) (s' : Sign) → a < k → P a s' → Q a s') → Operands y s P → Operands y s Q
operands_map (Const b) k low s P Q h p = tt
operands_map (Signal i) k low s P Q h p = tt
operands_map (Not b) k low s P Q h p = h b (opposite s) low p
operands_map (And b c) k low s P Q h p = (h b s low.0 p.0, h c s low.1 p.1)
operands_map (Or b c) k low s P Q h p = (h b s low.0 p.0, h c s low.1 p.1)
operands_map (Next b) k low s P Q h p = h b s low p
operands_map (Until b c) k low s P Q h p = (h b s low.0 p.0, h c s low.1 p.1)
operands_map (WeakUntil b c) k low s P Q h p = (h b s low.0 p.0, h c s low.1 p.1)
operands_map (Previous b) k low s P Q h p = h b s low p
operands_map (WeakPrevious b) k low s P Q h p = h b s low p
operands_map (Since b c) k low s P Q h p = (h b s low.0 p.0, h c s low.1 p.1)
operands_map (WeakSince b c) k low s P Q h p = (h b s low.0 p.0, h c s low.1 p.1)

module _ (x : ℕ → Line) (r : ℕ) where
  lift : (k m a : ℕ) (s : Sign) → signed x r k m a s ≡ true → signed x r 0 (k + m) a s ≡ true
  lift zero m a s e = subst (λ z. signed x r 0 z a s ≡ true) (sym (zero-add m)) e
  lift (suc k) m a s e =
      subst (λ z. signed x r 0 z a s ≡ true) (add-suc k m ∙ sym (suc-add k m))
      (lift k (suc m) a s (or_left (signed x r (suc k) m a s) (hands (x k) (signed x r (suc k) m k) a s) e))

  down : (k m a : ℕ) (s : Sign) → ((j : ℕ) → j < k → Lower j (x j)) → k ≤ a → signed x r 0 (k + m) a s ≡ true → signed x r k m a s ≡ true
  down zero m a s low h e = subst (λ z. signed x r 0 z a s ≡ true) (zero-add m) e
  down (suc k) m a s low h e =
      elim
      (or_cases (signed x r (suc k) m a s) (hands (x k) (signed x r (suc k) m k) a s)
      (down k (suc m) a s (λ j hj. low j (omega arith)) (omega arith)
      (subst (λ z. signed x r 0 z a s ≡ true) (suc-add k m ∙ sym (add-suc k m)) e))) [
        | inl q ↦ q
        | inr q ↦
            (let w : a < k = hands_lower (x k) k (low k (omega arith)) (signed x r (suc k) m k) a s q in absurd (omega arith))
      ]

  module _ (n : ℕ) (low : (k : ℕ) → k < n → Lower k (x k)) where
    own_signs : (k m : ℕ) → k + suc m ≡ n → (s : Sign) → has x n r k s ≡ true → signed x r (suc k) m k s ≡ true
    own_signs k m e s h =
        elim
        (or_cases (signed x r (suc k) m k s) (hands (x k) (signed x r (suc k) m k) k s)
        (down k (suc m) k s (λ j hj. low j (omega arith)) (omega arith) (subst (λ z. signed x r 0 z k s ≡ true) (sym e) h))) [
          | inl q ↦ q
          | inr q ↦
              (let w : k < k = hands_lower (x k) k (low k (omega arith)) (signed x r (suc k) m k) k s q in absurd (omega arith))
        ]

    hand_on : (k m : ℕ) → k + suc m ≡ n → (a : ℕ) (s : Sign) → hands (x k) (signed x r (suc k) m k) a s ≡ true → has x n r a s ≡ true
    hand_on k m e a s h =
        subst (λ z. signed x r 0 z a s ≡ true) e
        (lift k (suc m) a s (or_right (signed x r (suc k) m a s) (hands (x k) (signed x r (suc k) m k) a s) h))

    -- a line's operands have the signs that it hands on
    pub closed : (k : ℕ) → k < n → (s : Sign) → has x n r k s ≡ true → Operands (x k) s (λ a s'. has x n r a s' ≡ true)
    closed k hk s h =
        let m : ℕ = n - suc k in
        let e : k + suc m ≡ n = omega arith in
        operands_map (x k) k (low k hk) s (λ a s'. hands (x k) (signed x r (suc k) m k) a s' ≡ true) (λ a s'. has x n r a s' ≡ true)
        (λ a s' _ q. hand_on k m e a s' q)
        (handed (x k) (signed x r (suc k) m k) s (own_signs k m e s h))

    pub rule_plus : has x n r r plus ≡ true
    rule_plus = subst (λ z. signed x r 0 z r plus ≡ true) (add-zero n) (lift n 0 r plus (eqb_same r))

  pub used_of : (n k : ℕ) (s : Sign) → has x n r k s ≡ true → used x n r k ≡ true
  used_of n k plus e = or_left (has x n r k plus) (has x n r k minus) e
  used_of n k minus e = or_right (has x n r k plus) (has x n r k minus) e

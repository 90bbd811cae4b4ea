-- What an accepting run of the translation claims holds.
use Rattle.std.proofs.Common.{◌≡◌, ℕ, zero, suc, ◌+◌, ◌-◌, ◌<◌, Bool, true, false, ◌&&◌, ◌||◌, [], ◌∷◌, get_or, sym, refl, ap, ◌∙◌, subst, not-suc-le-zero, add-zero, arith}
use Rattle.recording.specs.Kinds.{two}
use Rattle.recording.specs.Word.{Word}
use Rattle.sheet.specs.declared.line.Line.{Line}
use Rattle.sheet.specs.declared.line.Line.TheVariants.{Const, Signal, Not, And, Or, Next, Until, WeakUntil, Previous, WeakPrevious, Since, WeakSince}
use Rattle.sheet.specs.Table.{Lower}
use Rattle.meaning.specs.Sheet.{Values, before, Row}
use Rattle.machine.specs.declared.gate.Gate.TheVariants as gate
use Rattle.machine.specs.declared.gate.Pair.{Pair}
use Rattle.machine.specs.declared.gate.Variable.TheVariants as variable
use Rattle.laws.specs.Runs.{Bits, Starts, Equation, Often, Fair}
use Rattle.machine.specs.Signs.{Sign, plus, minus}
use Rattle.machine.specs.Translation.{has, used, size, memory, total, first, place, name, gates_of, variables_of, pairs_of, one_pair, pair_lists, translation}
use Rattle.laws.proofs.Behave.{Behaves, FairLine, line_bound}
use Rattle.laws.proofs.BitRuns.{BitRun, gate_bit}
use Rattle.laws.proofs.Bits.{Bound, Unrolls}
use Rattle.machine.proofs.Numbers.{place_is, gate_in, gate_is, variable_in, variable_is, made_pairs, pair_in, pair_is}
use Rattle.machine.proofs.Signing.{operands_map, closed, used_of}

before_is : (start : Bool) (y q : Values two) → q 0 ≡ start → ((t : ℕ) → q (suc t) ≡ y t) → (t : ℕ) → q t ≡ before two start y t
before_is start y q a b zero = a
before_is start y q a b (suc t) = b t

module _ (word : Word Bool) (x : ℕ → Line) (n r : ℕ) (run g : Bits) (is : BitRun (translation x n r) word run g) where
  -- the bits of line a's own gate
  abbrev own : ℕ → Values two
  own a = g (place x n r a)

  module _ (k : ℕ) (hk : k < n) (u : used x n r k ≡ true) where
    row : (y : Line) → x k ≡ y → (i : ℕ) → i < size y → (t : ℕ) → g (first x n r k + i) t ≡ gate_bit word run g (get_or (gates_of (place x n r) (first x n r k) (name x n r k) y) i (gate.Const false)) t
    row y e i hi t = is.gates (first x n r k + i) (gate_in x n r k hk u y e i hi) t ∙ ap (λ z. gate_bit word run g z t) (gate_is x n r k hk u y e i hi)

    started : (y : Line) → x k ≡ y → memory y ≡ 1 → Starts (get_or (variables_of (place x n r) (place x n r k) y) 0 (variable.Next 0)) (run (name x n r k))
    started y e one = subst (λ z. Starts z (run (name x n r k))) (variable_is x n r k hk u y e one) (is.starts (name x n r k) (variable_in x n r k hk u y e one))

    keeps : (y : Line) → x k ≡ y → memory y ≡ 1 → (t : ℕ) → Equation g (get_or (variables_of (place x n r) (place x n r k) y) 0 (variable.Next 0)) (run (name x n r k)) t (suc t)
    keeps y e one t = subst (λ z. Equation g z (run (name x n r k)) t (suc t)) (variable_is x n r k hk u y e one) (is.equations (name x n r k) (variable_in x n r k hk u y e one) t)

    -- a line with one gate
    only : (y : Line) → x k ≡ y → size y ≡ 1 → (t : ℕ) → own k t ≡ gate_bit word run g (get_or (gates_of (place x n r) (first x n r k) (name x n r k) y) 0 (gate.Const false)) t
    only y e one t =
        let z : size y - 1 ≡ 0 = omega arith in
        ap (λ j. g j t) (place_is x n r k hk u y e ∙ ap (λ j. first x n r k + j) z) ∙ row y e 0 (omega arith) t

    unrolls : (a b : ℕ) (y : Line) → x k ≡ y → size y ≡ 1 → get_or (gates_of (place x n r) (first x n r k) (name x n r k) y) 0 (gate.Const false) ≡ gate.Var (name x n r k)
        → ((t : ℕ) → Equation g (variable.Until (place x n r a) (place x n r b)) (run (name x n r k)) t (suc t)) → Unrolls (own a) (own b) (own k)
    unrolls a b y e one v keep t =
        self t ∙ keep t ∙ ap (λ q. own b t || (own a t && q)) (sym (self (suc t)))
      where
        self : (t : ℕ) → own k t ≡ run (name x n r k) t
        self t = only y e one t ∙ ap (λ z. gate_bit word run g z t) v

    -- a since's three gates
    carried : (a b : ℕ) (start : Bool) (y : Line) → x k ≡ y → size y ≡ 3
        → gates_of (place x n r) (first x n r k) (name x n r k) y ≡ gate.Var (name x n r k) ∷ gate.And (place x n r a) (first x n r k) ∷ gate.Or (place x n r b) (first x n r k + 1) ∷ []
        → run (name x n r k) 0 ≡ start → ((t : ℕ) → Equation g (variable.Back (place x n r k) start) (run (name x n r k)) t (suc t))
        → (t : ℕ) → own k t ≡ (own b t || (own a t && before two start (own k) t))
    carried a b start y e three v starts keep t =
        ap (λ j. g j t) (place_is x n r k hk u y e ∙ ap (λ j. first x n r k + j) two)
        ∙ row y e 2 (omega arith) t ∙ ap (λ l. gate_bit word run g (get_or l 2 (gate.Const false)) t) v
        ∙ ap (λ q. own b t || q) (row y e 1 (omega arith) t ∙ ap (λ l. gate_bit word run g (get_or l 1 (gate.Const false)) t) v)
        ∙ ap (λ q. own b t || (own a t && q))
        (ap (λ j. g j t) (sym (add-zero (first x n r k))) ∙ row y e 0 (omega arith) t ∙ ap (λ l. gate_bit word run g (get_or l 0 (gate.Const false)) t) v
        ∙ before_is start (own k) (run (name x n r k)) starts keep t)
      where
        two : size y - 1 ≡ 2
        two = omega arith

    pub behaves : (y : Line) → x k ≡ y → Behaves word y own (own k)
    behaves (Const b) e = only (Const b) e refl
    behaves (Signal i) e = only (Signal i) e refl
    behaves (Not a) e = only (Not a) e refl
    behaves (And a b) e = only (And a b) e refl
    behaves (Or a b) e = only (Or a b) e refl
    behaves (Next a) e = λ t. only (Next a) e refl t ∙ keeps (Next a) e refl t
    behaves (Until a b) e = unrolls a b (Until a b) e refl refl (keeps (Until a b) e refl)
    behaves (WeakUntil a b) e = unrolls a b (WeakUntil a b) e refl refl (keeps (WeakUntil a b) e refl)
    behaves (Previous a) e = λ t.
        only (Previous a) e refl t
        ∙ before_is false (own a) (run (name x n r k)) (started (Previous a) e refl) (keeps (Previous a) e refl) t
    behaves (WeakPrevious a) e = λ t.
        only (WeakPrevious a) e refl t
        ∙ before_is true (own a) (run (name x n r k)) (started (WeakPrevious a) e refl) (keeps (WeakPrevious a) e refl) t
    behaves (Since a b) e = carried a b false (Since a b) e refl refl (started (Since a b) e refl) (keeps (Since a b) e refl)
    behaves (WeakSince a b) e = carried a b true (WeakSince a b) e refl refl (started (WeakSince a b) e refl) (keeps (WeakSince a b) e refl)

  module _ (acc : Fair (translation x n r) g) where
    often : (k : ℕ) → k < n → (p : Pair) → pair_lists x n r k ≡ p ∷ [] → Often (g p.from) (g p.to)
    often k hk p e =
        subst (λ (z : Pair). Often (g z.from) (g z.to)) (pair_is x n r k hk p e) (acc (total (made_pairs x n r) k) (pair_in x n r k hk p e))

    fair : (k : ℕ) → k < n → (y : Line) → x k ≡ y → (s : Sign) → has x n r k s ≡ true → FairLine y s own (own k)
    fair k hk (Until a b) e plus h =
        often k hk (record { from = place x n r k; to = place x n r b })
        (ap (pairs_of (place x n r) (place x n r k) (has x n r k)) e ∙ ap (λ c. one_pair c (place x n r k) (place x n r b)) h)
    fair k hk (Until a b) e minus h = tt
    fair k hk (WeakUntil a b) e plus h = tt
    fair k hk (WeakUntil a b) e minus h =
        often k hk (record { from = place x n r a; to = place x n r k })
        (ap (pairs_of (place x n r) (place x n r k) (has x n r k)) e ∙ ap (λ c. one_pair c (place x n r a) (place x n r k)) h)
    fair k hk _ e s h = tt

    module _ (low : (k : ℕ) → k < n → Lower k (x k)) (f : ℕ → Values two) (rows : (k : ℕ) → k < n → (t : ℕ) → Row two word (x k) f t (f k t)) where
      pub bound : (m k : ℕ) → k < m → k < n → (s : Sign) → has x n r k s ≡ true → (t : ℕ) → Bound s (own k t) (f k t)
      bound zero k h hk s e t = absurd (not-suc-le-zero h)
      bound (suc m) k h hk s e t =
          line_bound word (x k) s own f (own k) (f k)
          (behaves k hk (used_of x r n k s e) (x k) refl)
          (rows k hk)
          (fair k hk (x k) refl s e)
          (operands_map (x k) k (low k hk) s (λ a s'. has x n r a s' ≡ true) (λ a s'. (t : ℕ) → Bound s' (own a t) (f a t))
          (λ a s' ha q. bound m a (omega arith) (omega arith) s' q)
          (closed x r n low k hk s e))
          t

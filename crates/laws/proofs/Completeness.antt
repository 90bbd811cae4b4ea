-- The run that shows the lines' values is a fair run, whose gates show them too.
use Rattle.std.proofs.Common.{◌≡◌, ℕ, zero, suc, ◌+◌, ◌-◌, ◌*◌, ◌<◌, ◌≤◌, Bool, true, false, cond, not, ◌&&◌, ◌||◌, ◌⊎◌, List, [], ◌∷◌, length, get_or, replicate, sym, refl, ap, ◌∙◌, subst, ap₂, subst₂, inl, inr, true≢false, not-suc-le-zero, add-zero, arith}
use mathlib.Core.Path.{fun_ext}
use lib.ListN.{length-replicate}
use Rattle.std.proofs.lemmas.Bool.{or_cases}
use Rattle.recording.specs.Kinds.{two}
use Rattle.recording.specs.Word.{Word}
use Rattle.sheet.specs.declared.line.Line.{Line}
use Rattle.sheet.specs.declared.line.Line.TheVariants.{Const, Signal, Not, And, Or, Next, Until, WeakUntil, Previous, WeakPrevious, Since, WeakSince}
use Rattle.sheet.specs.Table.{Lower, Named, pasts}
use Rattle.meaning.specs.Sheet.{Values, Periodic, ands, before, IsUntil, IsWeakUntil, Row}
use Rattle.meaning.proofs.Build.{is_always, always_value}
use Rattle.meaning.proofs.OneValue.{always_one}
use Rattle.meaning.proofs.Period.{period_below}
use Rattle.machine.specs.declared.gate.Gate.TheVariants as gate
use Rattle.machine.specs.declared.gate.Pair.{Pair}
use Rattle.machine.specs.declared.gate.Variable.TheVariants as variable
use Rattle.laws.specs.Laws.{shown}
use Rattle.laws.specs.Runs.{Bits, Starts, Equation, Often, Fair}
use Rattle.machine.specs.Signs.{Sign, plus, minus}
use Rattle.machine.specs.Tables.{gate_at, variable_at, pair_at, no_pair}
use Rattle.machine.specs.Translation.{has, used, size, memory, joined, made_gates, made_variables, first, place, name, gates_of, variables_of, pairs_of, one_pair, gate_lists, variable_lists, pair_lists, translation}
use Rattle.laws.proofs.Behave.{Behaves, row_behaves}
use Rattle.laws.proofs.BitRuns.{BitRun, gate_bit}
use Rattle.laws.proofs.Bits.{Unrolls}
use Rattle.machine.proofs.Joins.{joined_at, joined_find}
use Rattle.machine.proofs.Numbers.{size_pos, memory_le, counted, cond_length, gate_counts, variable_counts, gate_count_is, variable_count_is, gate_is, variable_is, made_pairs}
use Rattle.laws.proofs.Reading.{until_reaches}
use Rattle.machine.proofs.Signing.{Operands, operands_map, closed, used_of}

-- q shows the values y of a line
abbrev Shown : Line → Values two → Values two → Type 0
Shown (Next a) y q = q ≡ y
Shown (Until a b) y q = q ≡ y
Shown (WeakUntil a b) y q = q ≡ y
Shown (Previous a) y q = q ≡ y
Shown (WeakPrevious a) y q = q ≡ y
Shown (Since a b) y q = q ≡ before two false y
Shown (WeakSince a b) y q = q ≡ before two true y
Shown _ y q = Unit {0}

shown_by : (x : Line) (y q : Values two) → (memory x ≡ 1 → (t : ℕ) → q t ≡ shown two x y t) → Shown x y q
shown_by (Const b) y q h = tt
shown_by (Signal i) y q h = tt
shown_by (Not a) y q h = tt
shown_by (And a b) y q h = tt
shown_by (Or a b) y q h = tt
shown_by _ y q h = fun_ext (h refl)

-- a bit, with the equation that says which
bit : (b : Bool) → (b ≡ true) ⊎ (b ≡ false)
bit true = inl refl
bit false = inr refl

-- an and that is no has a no
ands_miss : (l : Values two) (t n : ℕ) → ands two l t n ≡ false → (m : ℕ) × (t ≤ m) × (l m ≡ false)
ands_miss l t zero e = absurd (true≢false e)
ands_miss l t (suc n) e =
    elim (bit (l t)) [
      | inl h ↦ (let w = ands_miss l (suc t) n (ap (λ b. b && ands two l (suc t) n) (sym h) ∙ e) in (w.0, omega (arith, w.1), w.2))
      | inr h ↦ (t, omega arith, h)
    ]

module _ (v S : ℕ) (hv : 1 ≤ v) (l r z : Values two) (pl : Periodic two v S l) (pr : Periodic two v S r) where
  pub until_often : ((t : ℕ) → IsUntil two l r t (z t)) → Often z r
  until_often is n =
      elim (bit (z n)) [
        | inl a ↦ (let w = until_reaches v S hv l r pl pr n (z n) (is n) a in (w.0, w.1, inr w.2))
        | inr b ↦ (n, omega arith, inl b)
      ]

  pub weak_often : ((t : ℕ) → IsWeakUntil two l r t (z t)) → Often l z
  unfolding always_value
  weak_often is n =
      elim (bit (z n)) [
        | inl a ↦ (n, omega arith, inr a)
        | inr b ↦
            (let w = ands_miss l n (S + v)
            (sym (always_one two l n (is n).always (ands two l n (S + v)) (is n).is_always (is_always two v S hv l pl n)) ∙ second (is n).until (is n).always (sym (is n).is_or ∙ b)) in
            (w.0, w.1, inl w.2))
      ]
    where
      second : (a b : Bool) → (a || b) ≡ false → b ≡ false
      second true b e = absurd (true≢false e)
      second false b e = e

-- the bits of a line's gates, f being the lines' values
vals_of : (ℕ → Values two) → ℕ → Line → List (Values two)
vals_of f k (Since a b) = before two false (f k) ∷ (λ t. f a t && before two false (f k) t) ∷ f k ∷ []
vals_of f k (WeakSince a b) = before two true (f k) ∷ (λ t. f a t && before two true (f k) t) ∷ f k ∷ []
vals_of f k _ = f k ∷ []

vals_size : (f : ℕ → Values two) (k : ℕ) (y : Line) → length (vals_of f k y) ≡ size y
unfolding vals_of
vals_size f k (Const b) = refl
vals_size f k _ = refl

vals_last : (f : ℕ → Values two) (k : ℕ) (y : Line) → get_or (vals_of f k y) (size y - 1) (λ _. false) ≡ f k
unfolding vals_of
vals_last f k (Const b) = refl
vals_last f k _ = refl

module _ (x : ℕ → Line) (n r : ℕ) (f : ℕ → Values two) where
  val_lists : ℕ → List (Values two)
  val_lists k = cond (used x n r k) (vals_of f k (x k)) []

  -- the gates' bits
  pub bits : Bits
  bits j = get_or (joined val_lists n) j (λ _. false)

  bits_at : (k : ℕ) → k < n → used x n r k ≡ true → (y : Line) → x k ≡ y → (i : ℕ) → i < size y → bits (first x n r k + i) ≡ get_or (vals_of f k y) i (λ _. false)
  unfolding bits val_lists
  bits_at k hk u y e i hi =
      joined_at val_lists (λ _. false) (made_gates x n r) (λ k. cond_length (used x n r k) (vals_of f k (x k)) (size (x k)) (vals_size f k (x k))) n k i hk
      (omega (arith, gate_count_is x n r k hk u y e))
      ∙ ap (λ b. get_or (cond b (vals_of f k (x k)) []) i (λ _. false)) u
      ∙ ap (λ z. get_or (vals_of f k z) i (λ _. false)) e

  pub bits_place : (k : ℕ) → k < n → used x n r k ≡ true → bits (place x n r k) ≡ f k
  bits_place k hk u = bits_at k hk u (x k) refl (size (x k) - 1) (omega (arith, size_pos (x k))) ∙ vals_last f k (x k)

  module _ (word : Word Bool) (low : (k : ℕ) → k < n → Lower k (x k)) (nam : (k : ℕ) → k < n → Named word.signals (x k))
      (rows : (k : ℕ) → k < n → (t : ℕ) → Row two word (x k) f t (f k t))
      (run : Bits) (shows : (k : ℕ) → k < n → used x n r k ≡ true → Shown (x k) (f k) (run (name x n r k))) where
    -- the operands' own gates show the operands' values
    shown_operands : (k : ℕ) → k < n → used x n r k ≡ true → (s : Sign) × Operands (x k) s (λ a _. bits (place x n r a) ≡ f a)
    shown_operands k hk u =
        elim (or_cases (has x n r k plus) (has x n r k minus) u) [ inl h ↦ (plus, by plus h) | inr h ↦ (minus, by minus h) ]
      where
        by : (s : Sign) → has x n r k s ≡ true → Operands (x k) s (λ a _. bits (place x n r a) ≡ f a)
        by s h =
            operands_map (x k) k (low k hk) s (λ a s'. has x n r a s' ≡ true) (λ a _. bits (place x n r a) ≡ f a)
            (λ a s' ha q. bits_place a (omega arith) (used_of x r n a s' q))
            (closed x r n low k hk s h)

    module _ (k : ℕ) (hk : k < n) (u : used x n r k ≡ true) where
      three : (a b : ℕ) (start : Bool) (y : Line) → x k ≡ y
          → vals_of f k y ≡ before two start (f k) ∷ (λ t. f a t && before two start (f k) t) ∷ f k ∷ []
          → gates_of (place x n r) (first x n r k) (name x n r k) y ≡ gate.Var (name x n r k) ∷ gate.And (place x n r a) (first x n r k) ∷ gate.Or (place x n r b) (first x n r k + 1) ∷ []
          → size y ≡ 3 → bits (place x n r a) ≡ f a → bits (place x n r b) ≡ f b
          → ((t : ℕ) → f k t ≡ (f b t || (f a t && before two start (f k) t))) → run (name x n r k) ≡ before two start (f k)
          → (i : ℕ) → i < size y → (t : ℕ) → get_or (vals_of f k y) i (λ _. false) t ≡ gate_bit word run bits (get_or (gates_of (place x n r) (first x n r k) (name x n r k) y) i (gate.Const false)) t
      three a b start y e ev eg es ea eb be sh i hi t =
          ap (λ (l : List (Values two)). get_or l i (λ _. false) t) ev ∙ go i (omega arith) ∙ ap (λ l. gate_bit word run bits (get_or l i (gate.Const false)) t) (sym eg)
        where
          at : (j : ℕ) → j < 3 → bits (first x n r k + j) ≡ get_or (before two start (f k) ∷ (λ t. f a t && before two start (f k) t) ∷ f k ∷ []) j (λ _. false)
          at j hj = bits_at k hk u y e j (omega arith) ∙ ap (λ (l : List (Values two)). get_or l j (λ _. false)) ev

          go : (i : ℕ) → i < 3
              → get_or (before two start (f k) ∷ (λ t. f a t && before two start (f k) t) ∷ f k ∷ []) i (λ _. false) t
              ≡ gate_bit word run bits
              (get_or (gate.Var (name x n r k) ∷ gate.And (place x n r a) (first x n r k) ∷ gate.Or (place x n r b) (first x n r k + 1) ∷ []) i (gate.Const false)) t
          go zero hj = ap (λ l. l t) (sym sh)
          go (suc zero) hj = ap₂ (λ l r. l t && r t) (sym ea) (sym (at 0 (omega arith)) ∙ ap bits (add-zero (first x n r k)))
          go (suc (suc zero)) hj = be t ∙ ap₂ (λ l r. l t || r t) (sym eb) (sym (at 1 (omega arith)))
          go (suc (suc (suc i))) hj = absurd (omega arith)

      gate_row : (y : Line) → x k ≡ y → (s : Sign) → Operands y s (λ a _. bits (place x n r a) ≡ f a) → Behaves word y f (f k) → Shown y (f k) (run (name x n r k))
          → (i : ℕ) → i < size y → (t : ℕ) → get_or (vals_of f k y) i (λ _. false) t ≡ gate_bit word run bits (get_or (gates_of (place x n r) (first x n r k) (name x n r k) y) i (gate.Const false)) t
      unfolding vals_of
      gate_row (Const b) e s ops be sh zero hi t = be t
      gate_row (Signal j) e s ops be sh zero hi t = be t
      gate_row (Not a) e s ops be sh zero hi t = be t ∙ ap (λ l. not (l t)) (sym ops)
      gate_row (And a b) e s ops be sh zero hi t = be t ∙ ap₂ (λ l r. l t && r t) (sym ops.0) (sym ops.1)
      gate_row (Or a b) e s ops be sh zero hi t = be t ∙ ap₂ (λ l r. l t || r t) (sym ops.0) (sym ops.1)
      gate_row (Since a b) e s ops be sh i hi t = three a b false (Since a b) e refl refl refl ops.0 ops.1 be sh i hi t
      gate_row (WeakSince a b) e s ops be sh i hi t = three a b true (WeakSince a b) e refl refl refl ops.0 ops.1 be sh i hi t
      gate_row _ e s ops be sh zero hi t = ap (λ l. l t) (sym sh)
      gate_row _ e s ops be sh (suc i) hi t = absurd (omega arith)

      unroll : (a b : ℕ) → (bits (place x n r a) ≡ f a) × (bits (place x n r b) ≡ f b) → Unrolls (f a) (f b) (f k) → run (name x n r k) ≡ f k
          → (t : ℕ) → run (name x n r k) t ≡ (bits (place x n r b) t || (bits (place x n r a) t && run (name x n r k) (suc t)))
      unroll a b ops be sh t =
          ap (λ l. l t) sh ∙ be t ∙ ap₂ (λ l r. r t || (l t && f k (suc t))) (sym ops.0) (sym ops.1)
          ∙ ap (λ q. bits (place x n r b) t || (bits (place x n r a) t && q (suc t))) (sym sh)

      start_row : (y : Line) → Behaves word y f (f k) → Shown y (f k) (run (name x n r k))
          → memory y ≡ 1 → Starts (get_or (variables_of (place x n r) (place x n r k) y) 0 (variable.Next 0)) (run (name x n r k))
      start_row (Next a) be sh one = tt
      start_row (Until a b) be sh one = tt
      start_row (WeakUntil a b) be sh one = tt
      start_row (Previous a) be sh one = ap (λ l. l 0) sh ∙ be 0
      start_row (WeakPrevious a) be sh one = ap (λ l. l 0) sh ∙ be 0
      start_row (Since a b) be sh one = ap (λ l. l 0) sh
      start_row (WeakSince a b) be sh one = ap (λ l. l 0) sh
      start_row _ be sh one = absurd (omega arith)

      keep_row : (y : Line) → (s : Sign) → Operands y s (λ a _. bits (place x n r a) ≡ f a) → Behaves word y f (f k) → Shown y (f k) (run (name x n r k))
          → memory y ≡ 1 → (t : ℕ) → Equation bits (get_or (variables_of (place x n r) (place x n r k) y) 0 (variable.Next 0)) (run (name x n r k)) t (suc t)
      keep_row (Next a) s ops be sh one t = ap (λ l. l t) sh ∙ be t ∙ ap (λ l. l (suc t)) (sym ops)
      keep_row (Until a b) s ops be sh one t = unroll a b ops be sh t
      keep_row (WeakUntil a b) s ops be sh one t = unroll a b ops be sh t
      keep_row (Previous a) s ops be sh one t = ap (λ l. l (suc t)) sh ∙ be (suc t) ∙ ap (λ l. l t) (sym ops)
      keep_row (WeakPrevious a) s ops be sh one t = ap (λ l. l (suc t)) sh ∙ be (suc t) ∙ ap (λ l. l t) (sym ops)
      keep_row (Since a b) s ops be sh one t = ap (λ l. l (suc t)) sh ∙ ap (λ l. l t) (sym (bits_place k hk u))
      keep_row (WeakSince a b) s ops be sh one t = ap (λ l. l (suc t)) sh ∙ ap (λ l. l t) (sym (bits_place k hk u))
      keep_row _ s ops be sh one t = absurd (omega arith)

    S : ℕ → ℕ
    S k = word.stem + pasts x k * word.cycle

    rep : (k : ℕ) → k < n → (a : ℕ) → a < k → Periodic two word.cycle (S k) (f a)
    unfolding S
    rep k hk = period_below two word x n low nam f rows k (omega arith)

    the_pair : (c : Bool) (p q : ℕ) → (c ≡ true → Often (bits p) (bits q)) → (i : ℕ) → i < length (one_pair c p q)
        → (d : Pair) → Often (bits (get_or (one_pair c p q) i d).from) (bits (get_or (one_pair c p q) i d).to)
    the_pair true p q h zero hi d = h refl
    the_pair true p q h (suc i) hi d = absurd (omega arith)
    the_pair false p q h i hi d = absurd (not-suc-le-zero hi)

    -- a pair of line k
    pair_row : (k : ℕ) → k < n → (y : Line) → x k ≡ y → Lower k y → ((t : ℕ) → Row two word y f t (f k t))
        → ((s : Sign) → has x n r k s ≡ true → Operands y s (λ a _. bits (place x n r a) ≡ f a))
        → (i : ℕ) → i < length (pairs_of (place x n r) (place x n r k) (has x n r k) y)
        → (d : Pair) → Often (bits (get_or (pairs_of (place x n r) (place x n r k) (has x n r k) y) i d).from) (bits (get_or (pairs_of (place x n r) (place x n r k) (has x n r k) y) i d).to)
    pair_row k hk (Until a b) e lo row ops i hi d =
        the_pair (has x n r k plus) (place x n r k) (place x n r b)
        (λ h.
        subst₂ Often (sym (bits_place k hk (used_of x r n k plus h))) (sym (ops plus h).1)
        (until_often word.cycle (S k) word.sizes.3 (f a) (f b) (f k) (rep k hk a lo.0) (rep k hk b lo.1) row))
        i hi d
    pair_row k hk (WeakUntil a b) e lo row ops i hi d =
        the_pair (has x n r k minus) (place x n r a) (place x n r k)
        (λ h.
        subst₂ Often (sym (ops minus h).0) (sym (bits_place k hk (used_of x r n k minus h)))
        (weak_often word.cycle (S k) word.sizes.3 (f a) (f b) (f k) (rep k hk a lo.0) (rep k hk b lo.1) row))
        i hi d
    pair_row k hk _ e lo row ops i hi d = absurd (not-suc-le-zero hi)

    by_sign : (k : ℕ) → k < n → (s : Sign) → has x n r k s ≡ true → Operands (x k) s (λ a _. bits (place x n r a) ≡ f a)
    by_sign k hk s h =
        operands_map (x k) k (low k hk) s (λ a s'. has x n r a s' ≡ true) (λ a _. bits (place x n r a) ≡ f a)
        (λ a s' ha q. bits_place a (omega arith) (used_of x r n a s' q))
        (closed x r n low k hk s h)

    is_run : BitRun (translation x n r) word run bits
    is_run = record { gates = gate_clause; starts = start_clause; equations = equation_clause }
      where
        gate_clause : (j : ℕ) → j < length (translation x n r).gates → (t : ℕ) → bits j t ≡ gate_bit word run bits (gate_at (translation x n r).gates j) t
        gate_clause j hj t =
            let w = joined_find (gate_lists x n r) (gate.Const false) (made_gates x n r) (gate_counts x n r) n j hj in
            let k : ℕ = w.0 in
            let i : ℕ = w.1 in
            let c = counted (used x n r k) (size (x k)) i w.3 in
            let ops = shown_operands k w.2 c.0 in
            subst (λ z. bits z t ≡ gate_bit word run bits (gate_at (translation x n r).gates z) t) (sym w.4)
            (ap (λ l. l t) (bits_at k w.2 c.0 (x k) refl i c.1)
            ∙ gate_row k w.2 c.0 (x k) refl ops.0 ops.1 (row_behaves word (x k) f (f k) (rows k w.2)) (shows k w.2 c.0) i c.1 t
            ∙ ap (λ z. gate_bit word run bits z t) (sym (gate_is x n r k w.2 c.0 (x k) refl i c.1)))

        -- variable j is that of a used line
        found : (j : ℕ) → j < length (translation x n r).variables → (k : ℕ) × (k < n) × (used x n r k ≡ true) × (memory (x k) ≡ 1) × (j ≡ name x n r k)
        found j hj =
            let w = joined_find (variable_lists x n r) (variable.Next 0) (made_variables x n r) (variable_counts x n r) n j hj in
            let c = counted (used x n r w.0) (memory (x w.0)) w.1 w.3 in
            (w.0, w.2, c.0, omega (arith, memory_le (x w.0), c.1), omega (arith, w.4, memory_le (x w.0), c.1))

        start_clause : (j : ℕ) → j < length (translation x n r).variables → Starts (variable_at (translation x n r).variables j) (run j)
        start_clause j hj =
            let w = found j hj in
            let k : ℕ = w.0 in
            subst (λ z. Starts (variable_at (translation x n r).variables z) (run z)) (sym w.4)
            (subst (λ z. Starts z (run (name x n r k))) (sym (variable_is x n r k w.1 w.2 (x k) refl w.3))
            (start_row k w.1 w.2 (x k) (row_behaves word (x k) f (f k) (rows k w.1)) (shows k w.1 w.2) w.3))

        equation_clause : (j : ℕ) → j < length (translation x n r).variables → (t : ℕ) → Equation bits (variable_at (translation x n r).variables j) (run j) t (suc t)
        equation_clause j hj t =
            let w = found j hj in
            let k : ℕ = w.0 in
            let ops = shown_operands k w.1 w.2 in
            subst (λ z. Equation bits (variable_at (translation x n r).variables z) (run z) t (suc t)) (sym w.4)
            (subst (λ z. Equation bits z (run (name x n r k)) t (suc t)) (sym (variable_is x n r k w.1 w.2 (x k) refl w.3))
            (keep_row k w.1 w.2 (x k) ops.0 ops.1 (row_behaves word (x k) f (f k) (rows k w.1)) (shows k w.1 w.2) w.3 t))

    is_fair : Fair (translation x n r) bits
    is_fair = λ j hj.
        let d : Pair = no_pair in
        let w = joined_find (pair_lists x n r) d (made_pairs x n r) (λ _. refl) n j hj in
        let k : ℕ = w.0 in
        subst (λ z. Often (bits (pair_at (translation x n r).pairs z).from) (bits (pair_at (translation x n r).pairs z).to)) (sym w.4)
        (subst (λ (z : Pair). Often (bits z.from) (bits z.to)) (sym (joined_at (pair_lists x n r) d (made_pairs x n r) (λ _. refl) n k w.1 w.2 w.3))
        (pair_row k w.2 (x k) refl (low k w.2) (rows k w.2) (by_sign k w.2) w.1 w.3 d))

  -- the run that shows the values is a run, and fair
  module _ (word : Word Bool) (low : (k : ℕ) → k < n → Lower k (x k)) (nam : (k : ℕ) → k < n → Named word.signals (x k))
      (rows : (k : ℕ) → k < n → (t : ℕ) → Row two word (x k) f t (f k t))
      (run : Bits) (shows : (k : ℕ) → k < n → used x n r k ≡ true → memory (x k) ≡ 1 → (t : ℕ) → run (name x n r k) t ≡ shown two (x k) (f k) t) where
    told : (k : ℕ) → k < n → used x n r k ≡ true → Shown (x k) (f k) (run (name x n r k))
    told k hk u = shown_by (x k) (f k) (run (name x n r k)) (shows k hk u)

    pub shown_run : BitRun (translation x n r) word run bits
    shown_run = is_run word low nam rows run told

    pub shown_fair : Fair (translation x n r) bits
    shown_fair = is_fair word low nam rows run told

  -- a run that shows the values
  note_lists : ℕ → List (Values two)
  note_lists k = cond (used x n r k) (replicate (memory (x k)) (shown two (x k) (f k))) []

  pub notes : Bits
  notes j = get_or (joined note_lists n) j (λ _. false)

  pub notes_show : (k : ℕ) → k < n → used x n r k ≡ true → memory (x k) ≡ 1 → notes (name x n r k) ≡ shown two (x k) (f k)
  unfolding notes note_lists
  notes_show k hk u one =
      ap notes (sym (add-zero (name x n r k)))
      ∙ joined_at note_lists (λ _. false) (made_variables x n r)
      (λ k. cond_length (used x n r k) (replicate (memory (x k)) (shown two (x k) (f k))) (memory (x k)) (length-replicate (memory (x k)) (shown two (x k) (f k)))) n k 0 hk
      (omega (arith, variable_count_is x n r k hk u (x k) refl))
      ∙ ap (λ b. get_or (cond b (replicate (memory (x k)) (shown two (x k) (f k))) []) 0 (λ _. false)) u
      ∙ ap (λ m. get_or (replicate m (shown two (x k) (f k))) 0 (λ _. false)) one

-- Finitely many rows pass exactly when the endless run that they stand for is accepting.
use Rattle.std.proofs.Common.{◌≡◌, ℕ, zero, suc, ◌+◌, ◌-◌, ◌*◌, ◌/◌, ◌<◌, ◌≤◌, Bool, true, false, not, ◌&&◌, ◌||◌, ltb, ◌⊎◌, ◌↔◌, length, sym, ap, ◌∙◌, subst, ap₂, inl, inr, not-suc-le-zero, arith}
use Rattle.std.proofs.lemmas.Nat.{div-add-mod'}
use Rattle.std.proofs.lemmas.Bool.{ltb-true, and_parts}
use Rattle.recording.specs.Kind.{Kind}
use Rattle.recording.specs.Word.{Word}
use Rattle.machine.specs.declared.gate.Gate.{Gate}
use Rattle.machine.specs.declared.gate.Gate.TheVariants as gate
use Rattle.machine.specs.declared.gate.Variable.{Variable}
use Rattle.machine.specs.declared.gate.Variable.TheVariants as variable
use Rattle.laws.specs.Checks.{HasGateSignals, Turns, Passes}
use Rattle.laws.specs.Runs.{Bits, Reads, Starts, Equation, Accepting, Accepts, after, row_at, endless}
use Rattle.machine.specs.Tables.{Tables, Names, Wired, gate_at, variable_at, pair_at, gate_fits, variable_fits, pair_fits}
use Rattle.laws.proofs.Behave.{same_bit}
use Rattle.laws.proofs.Endless.{row_in, row_low, row_repeats, row_same, row_times, row_back}

times : {V : Type 0} (word : Word V) (i : ℕ) → i < word.signals → (q t : ℕ) → word.stem ≤ t → word.at i (t + q * word.cycle) ≡ word.at i t
times word i hi zero t h = let e : t + 0 * word.cycle ≡ t = omega arith in ap (word.at i) e
times word i hi (suc q) t h =
    let e : t + suc q * word.cycle ≡ t + q * word.cycle + word.cycle = omega arith in
    ap (word.at i) e ∙ word.repeats i (t + q * word.cycle) hi (omega arith) ∙ times word i hi q t h

module _ (K : Kind) (m : Tables) (wired : Wired m) (word : Word K.Value) (named : HasGateSignals m.gates word.signals)
    (n back : ℕ) (turns : Turns word n back) (rows : Bits) where
  abbrev W : ℕ → ℕ
  W t = row_at n back t

  -- the recording comes again with the rows
  at_turn : (i : ℕ) → i < word.signals → (t : ℕ) → back ≤ t → word.at i (t + (n - back)) ≡ word.at i t
  at_turn i hi t h =
      let q : ℕ = (n - back) / word.cycle in
      let e : n - back ≡ q * word.cycle = omega (arith, div-add-mod' (n - back) word.cycle, turns.whole) in
      ap (λ c. word.at i (t + c)) e ∙ times word i hi q t (omega (arith, turns.stem))

  at_row : (i : ℕ) → i < word.signals → (t : ℕ) → word.at i (W t) ≡ word.at i t
  at_row i hi = row_same n back turns.inside (word.at i) (at_turn i hi)

  abbrev run : Bits
  run = endless n back rows

  -- rows that pass stand for an accepting run
  module _ (p : ℕ) (g : Bits) (ok : Passes K m word n back p rows g) where
    abbrev G : Bits
    G j t = g j (W t)

    gate_row : (z : Gate) → Names word.signals z → (t : ℕ) (b : Bool) → Reads K word rows g z (W t) b → Reads K word run G z t b
    gate_row (gate.Const c) h t b r = r
    gate_row (gate.Signal i) h t b r = (λ e. sym (at_row i h t) ∙ r.0 e, λ e. r.1 (at_row i h t ∙ e))
    gate_row (gate.Var i) h t b r = r
    gate_row (gate.Not a) h t b r = r
    gate_row (gate.And a c) h t b r = r
    gate_row (gate.Or a c) h t b r = r

    equation_row : (z : Variable) (j t : ℕ) → Equation g z (rows j) (W t) (after n back (W t)) → Equation G z (run j) t (suc t)
    equation_row (variable.Next a) j t h = h
    equation_row (variable.Until a b) j t h = h
    equation_row (variable.Back a s) j t h = h

    start_row : (z : Variable) (j : ℕ) → Starts z (rows j) → Starts z (run j)
    start_row (variable.Next a) j h = tt
    start_row (variable.Until a b) j h = tt
    start_row (variable.Back a s) j h = h

    more : (k c : ℕ) → 1 ≤ c → k ≤ k * c
    more zero c h = omega arith
    more (suc k) c h = omega (arith, more k c h)

    pub accepting : Accepting K m word p run G
    accepting =
        record {
          is_run =
              record {
                gates = λ j hj t. gate_row (gate_at m.gates j) (named j hj) t (g j (W t)) (ok.gates j hj (W t) (row_in n back turns.inside t));
                starts = λ j hj. start_row (variable_at m.variables j) j (ok.starts j hj);
                equations = λ j hj t. equation_row (variable_at m.variables j) j t (ok.equations j hj (W t) (row_in n back turns.inside t));
              };
          root = ok.root;
          fair = λ j hj k.
              let w = ok.fair j hj in
              let e : W (w.0 + k * (n - back)) ≡ w.0 = row_times n back turns.inside k w.0 w.1 ∙ row_low n back turns.inside w.0 w.2 in (
                w.0 + k * (n - back),
                omega (arith, more k (n - back) (omega (arith, turns.inside))),
                subst (λ s. (g (pair_at m.pairs j).from s ≡ false) ⊎ (g (pair_at m.pairs j).to s ≡ true)) (sym e) w.3,
              );
        }

  -- an accepting run's rows pass
  module _ (p : ℕ) (g : Bits) (acc : Accepting K m word p run g) where
    fits_pair : (a b c : ℕ) → pair_fits c (record { from = a; to = b }) ≡ true → (a < c) × (b < c)
    fits_pair a b c h = let q = and_parts (ltb a c) (ltb b c) h in (ltb-true a c q.0, ltb-true b c q.1)

    -- two bits that a gate's operands and the word make the same
    same_reads : (j s t : ℕ) (z : Gate) (v : ℕ) → gate_fits j v z ≡ true → Names word.signals z
        → ((a : ℕ) → a < j → g a s ≡ g a t) → ((i : ℕ) → i < word.signals → word.at i s ≡ word.at i t) → ((i : ℕ) → run i s ≡ run i t)
        → (b c : Bool) → Reads K word run g z s b → Reads K word run g z t c → b ≡ c
    same_reads j s t (gate.Const x) v fit nam low at var b c r q = r ∙ sym q
    same_reads j s t (gate.Signal i) v fit nam low at var b c r q =
        same_bit b c (λ e. q.1 (sym (at i nam) ∙ r.0 e)) (λ e. r.1 (at i nam ∙ q.0 e))
    same_reads j s t (gate.Var i) v fit nam low at var b c r q = r ∙ var i ∙ sym q
    same_reads j s t (gate.Not a) v fit nam low at var b c r q = r ∙ ap not (low a (ltb-true a j fit)) ∙ sym q
    same_reads j s t (gate.And x y) v fit nam low at var b c r q =
        let h = fits_pair x y j fit in r ∙ ap₂ ◌&&◌ (low x h.0) (low y h.1) ∙ sym q
    same_reads j s t (gate.Or x y) v fit nam low at var b c r q =
        let h = fits_pair x y j fit in r ∙ ap₂ ◌||◌ (low x h.0) (low y h.1) ∙ sym q

    gates_repeat : (l j : ℕ) → j < l → j < length m.gates → (t : ℕ) → back ≤ t → g j (t + (n - back)) ≡ g j t
    gates_repeat zero j h hj t ht = absurd (not-suc-le-zero h)
    gates_repeat (suc l) j h hj t ht =
        same_reads j (t + (n - back)) t (gate_at m.gates j) (length m.variables) (wired.gates j hj) (named j hj)
        (λ a ha. gates_repeat l a (omega arith) (omega arith) t ht)
        (λ i hi. at_turn i hi t ht)
        (λ i. ap (rows i) (row_repeats n back turns.inside t ht))
        (g j (t + (n - back))) (g j t) (acc.is_run.gates j hj (t + (n - back))) (acc.is_run.gates j hj t)

    gate_same : (j : ℕ) → j < length m.gates → (t : ℕ) → g j (W t) ≡ g j t
    gate_same j hj = row_same n back turns.inside (g j) (gates_repeat (suc j) j (omega arith) hj)

    next_row : (t : ℕ) → t < n → W (suc t) ≡ after n back t
    next_row t h = ap (after n back) (row_low n back turns.inside t h)

    gate_back : (z : Gate) (t : ℕ) (b : Bool) → t < n → Reads K word run g z t b → Reads K word rows g z t b
    gate_back (gate.Const c) t b h r = r
    gate_back (gate.Signal i) t b h r = r
    gate_back (gate.Var i) t b h r = r ∙ ap (rows i) (row_low n back turns.inside t h)
    gate_back (gate.Not a) t b h r = r
    gate_back (gate.And a c) t b h r = r
    gate_back (gate.Or a c) t b h r = r

    equation_back : (z : Variable) (j : ℕ) → variable_fits (length m.gates) z ≡ true → (t : ℕ) → t < n → Equation g z (run j) t (suc t) → Equation g z (rows j) t (after n back t)
    equation_back (variable.Next a) j fit t ht h =
        ap (rows j) (sym (row_low n back turns.inside t ht)) ∙ h ∙ sym (gate_same a (ltb-true a (length m.gates) fit) (suc t)) ∙ ap (g a) (next_row t ht)
    equation_back (variable.Until a b) j fit t ht h =
        ap (rows j) (sym (row_low n back turns.inside t ht)) ∙ h ∙ ap (λ s. g b t || (g a t && rows j s)) (next_row t ht)
    equation_back (variable.Back a s) j fit t ht h = ap (rows j) (sym (next_row t ht)) ∙ h

    start_back : (z : Variable) (j : ℕ) → Starts z (run j) → Starts z (rows j)
    start_back (variable.Next a) j h = tt
    start_back (variable.Until a b) j h = tt
    start_back (variable.Back a s) j h = h

    pub passes : Passes K m word n back p rows g
    passes =
        record {
          gates = λ j hj t ht. gate_back (gate_at m.gates j) t (g j t) ht (acc.is_run.gates j hj t);
          starts = λ j hj. start_back (variable_at m.variables j) j (acc.is_run.starts j hj);
          equations = λ j hj t ht. equation_back (variable_at m.variables j) j (wired.variables j hj) t ht (acc.is_run.equations j hj t);
          root = gate_same m.root wired.root p ∙ acc.root;
          fair = λ j hj.
              let w = acc.fair j hj back in
              let q = fits_pair (pair_at m.pairs j).from (pair_at m.pairs j).to (length m.gates) (wired.pairs j hj) in (
                W w.0,
                row_back n back turns.inside w.0 w.1,
                row_in n back turns.inside w.0,
                elim w.2 [
                  | inl a ↦ inl (gate_same (pair_at m.pairs j).from q.0 w.0 ∙ a)
                  | inr b ↦ inr (gate_same (pair_at m.pairs j).to q.1 w.0 ∙ b)
                ],
              );
        }

  pub check_decides : (p : ℕ) → Accepts K m word p run ↔ ((g : Bits) × Passes K m word n back p rows g)
  check_decides p = (λ a. (a.0, passes p a.0 a.1), λ c. (G p c.0 c.1, accepting p c.0 c.1))

-- Where a used line's gates, its variable and its pair stand in the translation.
use Rattle.std.proofs.Common.{◌≡◌, ℕ, ◌+◌, ◌-◌, ◌<◌, ◌≤◌, Bool, true, false, cond, List, [], ◌∷◌, length, get_or, sym, refl, ap, ◌∙◌, add-zero, arith}
use Rattle.sheet.specs.declared.line.Line.{Line}
use Rattle.sheet.specs.declared.line.Line.TheVariants.{Const}
use Rattle.machine.specs.declared.gate.Gate.TheVariants as gate
use Rattle.machine.specs.declared.gate.Pair.{Pair}
use Rattle.machine.specs.declared.gate.Variable.TheVariants as variable
use Rattle.machine.specs.Tables.{gate_at, variable_at, pair_at, no_pair}
use Rattle.machine.specs.Translation.{used, size, memory, total, joined, gates_of, variables_of, made_gates, made_variables, first, place, name, gate_lists, variable_lists, pair_lists, translation}
use Rattle.machine.proofs.Joins.{total_le, joined_length, joined_at}

pub size_pos : (y : Line) → 0 < size y
size_pos (Const v) = omega arith
size_pos _ = omega arith

pub size_le : (y : Line) → size y ≤ 3
size_le (Const v) = omega arith
size_le _ = omega arith

pub memory_le : (y : Line) → memory y ≤ 1
memory_le (Const v) = omega arith
memory_le _ = omega arith

-- something is counted: the line is used
pub counted : (b : Bool) (m i : ℕ) → i < cond b m 0 → (b ≡ true) × (i < m)
counted true m i h = (refl, h)
counted false m i h = absurd (omega arith)

pub gates_size : (p : ℕ → ℕ) (f v : ℕ) (y : Line) → length (gates_of p f v y) ≡ size y
gates_size p f v (Const b) = refl
gates_size p f v _ = refl

pub variables_size : (p : ℕ → ℕ) (own : ℕ) (y : Line) → length (variables_of p own y) ≡ memory y
variables_size p own (Const v) = refl
variables_size p own _ = refl

pub cond_length : {A : Type 0} (b : Bool) (l : List A) (m : ℕ) → length l ≡ m → length (cond b l []) ≡ cond b m 0
cond_length true l m e = e
cond_length false l m e = refl

module _ (x : ℕ → Line) (n r : ℕ) where
  pub gate_counts : (k : ℕ) → length (gate_lists x n r k) ≡ made_gates x n r k
  gate_counts k = cond_length (used x n r k) (gates_of (place x n r) (first x n r k) (name x n r k) (x k)) (size (x k)) (gates_size (place x n r) (first x n r k) (name x n r k) (x k))

  pub variable_counts : (k : ℕ) → length (variable_lists x n r k) ≡ made_variables x n r k
  variable_counts k = cond_length (used x n r k) (variables_of (place x n r) (place x n r k) (x k)) (memory (x k)) (variables_size (place x n r) (place x n r k) (x k))

  -- line k is y, and used
  module _ (k : ℕ) (hk : k < n) (u : used x n r k ≡ true) (y : Line) (e : x k ≡ y) where
    pub gate_count_is : made_gates x n r k ≡ size y
    gate_count_is = ap (λ b. cond b (size (x k)) 0) u ∙ ap size e

    pub variable_count_is : made_variables x n r k ≡ memory y
    variable_count_is = ap (λ b. cond b (memory (x k)) 0) u ∙ ap memory e

    pub place_is : place x n r k ≡ first x n r k + (size y - 1)
    place_is = ap (λ z. first x n r k + (size z - 1)) e

    pub gate_in : (i : ℕ) → i < size y → first x n r k + i < length (translation x n r).gates
    gate_in i hi =
        let a : length (joined (gate_lists x n r) n) ≡ first x n r n = joined_length (gate_lists x n r) (gate.Const false) (made_gates x n r) gate_counts n in
        omega (arith, total_le (made_gates x n r) k n hk, gate_count_is)

    pub gate_is : (i : ℕ) → i < size y → gate_at (translation x n r).gates (first x n r k + i) ≡ get_or (gates_of (place x n r) (first x n r k) (name x n r k) y) i (gate.Const false)
    gate_is i hi =
        joined_at (gate_lists x n r) (gate.Const false) (made_gates x n r) gate_counts n k i hk (omega (arith, gate_count_is))
        ∙ ap (λ b. get_or (cond b (gates_of (place x n r) (first x n r k) (name x n r k) (x k)) []) i (gate.Const false)) u
        ∙ ap (λ z. get_or (gates_of (place x n r) (first x n r k) (name x n r k) z) i (gate.Const false)) e

    pub variable_in : memory y ≡ 1 → name x n r k < length (translation x n r).variables
    variable_in one =
        let a : length (joined (variable_lists x n r) n) ≡ name x n r n = joined_length (variable_lists x n r) (variable.Next 0) (made_variables x n r) variable_counts n in
        omega (arith, total_le (made_variables x n r) k n hk, variable_count_is)

    pub variable_is : memory y ≡ 1 → variable_at (translation x n r).variables (name x n r k) ≡ get_or (variables_of (place x n r) (place x n r k) y) 0 (variable.Next 0)
    variable_is one =
        ap (variable_at (translation x n r).variables) (sym (add-zero (name x n r k)))
        ∙ joined_at (variable_lists x n r) (variable.Next 0) (made_variables x n r) variable_counts n k 0 hk (omega (arith, variable_count_is))
        ∙ ap (λ b. get_or (cond b (variables_of (place x n r) (place x n r k) (x k)) []) 0 (variable.Next 0)) u
        ∙ ap (λ z. get_or (variables_of (place x n r) (place x n r k) z) 0 (variable.Next 0)) e

  abbrev pub made_pairs : ℕ → ℕ
  made_pairs k = length (pair_lists x n r k)

  module _ (k : ℕ) (hk : k < n) (p : Pair) (e : pair_lists x n r k ≡ p ∷ []) where
    pub pair_in : total made_pairs k < length (translation x n r).pairs
    pair_in =
        let a : length (joined (pair_lists x n r) n) ≡ total made_pairs n = joined_length (pair_lists x n r) p made_pairs (λ _. refl) n in
        let b : made_pairs k ≡ 1 = ap length e in
        omega (arith, total_le made_pairs k n hk)

    pub pair_is : pair_at (translation x n r).pairs (total made_pairs k) ≡ p
    pair_is =
        let b : made_pairs k ≡ 1 = ap length e in
        ap (pair_at (translation x n r).pairs) (sym (add-zero (total made_pairs k)))
        ∙ joined_at (pair_lists x n r) no_pair made_pairs (λ _. refl) n k 0 hk (omega arith)
        ∙ ap (λ l. get_or l 0 no_pair) e

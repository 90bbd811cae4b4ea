-- The rows of a machine's tables as text. First fields number the rows; a dash marks an absent field.
use Rattle.std.specs.Prelude.{ℕ, suc, Bool, cond, List, [], ◌∷◌, ◌++◌, codes, decimal}
use Rattle.machine.specs.declared.gate.Gate.{Gate}
use Rattle.machine.specs.declared.gate.Gate.TheVariants as gate
use Rattle.machine.specs.declared.gate.Pair.{Pair}
use Rattle.machine.specs.declared.gate.Variable.{Variable}
use Rattle.machine.specs.declared.gate.Variable.TheVariants as variable
use Rattle.machine.specs.Tables.{Tables}

abbrev pub bit : Bool → List ℕ
bit b = decimal (cond b 1 0)

abbrev pub gate_text : ℕ → Gate → List ℕ
gate_text n (gate.Const b) = decimal n ++ (codes " const " ++ (bit b ++ codes " -"))
gate_text n (gate.Signal a) = decimal n ++ (codes " sig " ++ (decimal a ++ codes " -"))
gate_text n (gate.Var a) = decimal n ++ (codes " var " ++ (decimal a ++ codes " -"))
gate_text n (gate.Not a) = decimal n ++ (codes " not " ++ (decimal a ++ codes " -"))
gate_text n (gate.And a b) = decimal n ++ (codes " and " ++ (decimal a ++ (codes " " ++ decimal b)))
gate_text n (gate.Or a b) = decimal n ++ (codes " or " ++ (decimal a ++ (codes " " ++ decimal b)))

abbrev pub variable_text : ℕ → Variable → List ℕ
variable_text n (variable.Next a) = decimal n ++ (codes " next " ++ (decimal a ++ codes " - -"))
variable_text n (variable.Until a b) = decimal n ++ (codes " until " ++ (decimal a ++ (codes " " ++ (decimal b ++ codes " -"))))
variable_text n (variable.Back a s) = decimal n ++ (codes " back " ++ (decimal a ++ (codes " - " ++ bit s)))

abbrev pub pair_text : ℕ → Pair → List ℕ
pair_text n p = decimal n ++ (codes " " ++ (decimal p.from ++ (codes " " ++ decimal p.to)))

-- the rows of a table from number n on, each with its line end
abbrev pub rows_text : {X : Type 0} → (ℕ → X → List ℕ) → ℕ → List X → List ℕ
rows_text row n [] = []
rows_text row n (x ∷ xs) = row n x ++ (10 ∷ rows_text row (suc n) xs)

-- a table: its heading and its rows
abbrev pub table_text : {X : Type 0} → List ℕ → (ℕ → X → List ℕ) → List X → List ℕ
table_text heading row xs = heading ++ (10 ∷ rows_text row 0 xs)

-- the tables of a machine, each under its heading
abbrev pub tables_text : Tables → List ℕ
tables_text m =
    table_text (codes "gate kind a b") gate_text m.gates
    ++ (table_text (codes "var kind a b start") variable_text m.variables
    ++ (table_text (codes "fair from to") pair_text m.pairs
    ++ (codes "root" ++ (10 ∷ (decimal m.root ++ (10 ∷ []))))))

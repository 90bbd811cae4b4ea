-- A machine as its tables: gates, variables, fairness pairs and the root. And the test that each names what is there.
use Rattle.std.specs.Prelude.{◌≡◌, ℕ, ◌<◌, ◌≤◌, Bool, true, false, ◌&&◌, List, [], ◌∷◌, length, take, nat_lt, slice_index_or}
use Rattle.machine.specs.declared.gate.Gate.{Gate}
use Rattle.machine.specs.declared.gate.Gate.TheVariants as gate
use Rattle.machine.specs.declared.gate.Pair.{Pair}
use Rattle.machine.specs.declared.gate.Variable.{Variable}
use Rattle.machine.specs.declared.gate.Variable.TheVariants as variable

pub record Tables : Type 0 where
  pub gates : List Gate
  pub variables : List Variable
  pub pairs : List Pair
  pub root : ℕ

abbrev pub gate_at : List Gate → ℕ → Gate
gate_at gates k = slice_index_or gates k (gate.Const false)

abbrev pub variable_at : List Variable → ℕ → Variable
variable_at variables j = slice_index_or variables j (variable.Next 0)

abbrev pub no_pair : Pair
no_pair = record { from = 0; to = 0 }

abbrev pub pair_at : List Pair → ℕ → Pair
pair_at pairs j = slice_index_or pairs j no_pair

-- a gate that names gates below k, variables below v and signals below 32
abbrev pub gate_fits : ℕ → ℕ → Gate → Bool
gate_fits k v (gate.Const b) = true
gate_fits k v (gate.Signal i) = nat_lt i 32
gate_fits k v (gate.Var j) = nat_lt j v
gate_fits k v (gate.Not a) = nat_lt a k
gate_fits k v (gate.And a b) = nat_lt a k && nat_lt b k
gate_fits k v (gate.Or a b) = nat_lt a k && nat_lt b k

-- the signal that a gate names, if it names one, is below c
abbrev pub Names : ℕ → Gate → Type 0
Names c (gate.Const b) = Unit {0}
Names c (gate.Signal i) = i < c
Names c (gate.Var j) = Unit {0}
Names c (gate.Not a) = Unit {0}
Names c (gate.And a b) = Unit {0}
Names c (gate.Or a b) = Unit {0}

-- a variable, and a pair, that names gates below k
abbrev pub variable_fits : ℕ → Variable → Bool
variable_fits k (variable.Next a) = nat_lt a k
variable_fits k (variable.Until a b) = nat_lt a k && nat_lt b k
variable_fits k (variable.Back a s) = nat_lt a k

abbrev pub pair_fits : ℕ → Pair → Bool
pair_fits k p = nat_lt p.from k && nat_lt p.to k

-- each of the first n gates names earlier gates, and variables below v
abbrev pub GatesFit : ℕ → ℕ → List Gate → Type 0
GatesFit n v gates = (k : ℕ) → k < n → gate_fits k v (gate_at gates k) ≡ true

-- each of the first n variables, and of the first n pairs, names gates below g
abbrev pub VariablesFit : ℕ → ℕ → List Variable → Type 0
VariablesFit n g variables = (j : ℕ) → j < n → variable_fits g (variable_at variables j) ≡ true

abbrev pub PairsFit : ℕ → ℕ → List Pair → Type 0
PairsFit n g pairs = (j : ℕ) → j < n → pair_fits g (pair_at pairs j) ≡ true

-- all that a machine's tables name is there
pub record Wired (m : Tables) : Type 0 where
  pub gates : GatesFit (length m.gates) (length m.variables) m.gates
  pub variables : VariablesFit (length m.variables) (length m.gates) m.variables
  pub pairs : PairsFit (length m.pairs) (length m.gates) m.pairs
  pub root : m.root < length m.gates

-- and the tables have no more rows than the machine place
pub record Bounded (m : Tables) : Type 0 where
  pub gates : length m.gates ≤ 192
  pub variables : length m.variables ≤ 64
  pub pairs : length m.pairs ≤ 64

-- what is known of every machine place
abbrev pub IsSound : Tables → Type 0
IsSound m = Wired m × Bounded m

-- the tables that stand in arrays, of which so many rows are there
abbrev pub counted : List Gate → ℕ → List Variable → ℕ → List Pair → ℕ → ℕ → Tables
counted gates g variables v pairs p root = record { gates = take g gates; variables = take v variables; pairs = take p pairs; root = root }

-- a new machine: gate 0, constant 0, is its root
abbrev pub fresh : Tables
fresh = record { gates = gate.Const false ∷ []; variables = []; pairs = []; root = 0 }

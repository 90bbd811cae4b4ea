-- What is looked at to check a run: finitely many rows, after the last of which comes row back.
use Rattle.std.specs.Prelude.{◌≡◌, ℕ, ◌-◌, ◌%◌, ◌<◌, ◌≤◌, Bool, true, List, length}
use Rattle.recording.specs.Kind.{Kind}
use Rattle.recording.specs.Word.{Word}
use Rattle.machine.specs.declared.gate.Gate.{Gate}
use Rattle.laws.specs.Runs.{Bits, Reads, Starts, Equation, Met, after, row_at}
use Rattle.machine.specs.Tables.{Tables, Names, gate_at, variable_at, pair_at}

-- a recording of c signals has those that the gates name, used or not
abbrev pub HasGateSignals : List Gate → ℕ → Type 0
HasGateSignals gates c = (j : ℕ) → j < length gates → Names c (gate_at gates j)

-- the rows from back on come after the word's stem, and are whole cycles
pub record Turns {V : Type 0} (word : Word V) (n back : ℕ) : Type 0 where
  pub inside : back < n
  pub stem : word.stem ≤ back
  pub whole : (n - back) % word.cycle ≡ 0

-- g are the gates' bits at each of n rows
abbrev pub Evaluates : (K : Kind) → Tables → Word K.Value → ℕ → Bits → Bits → Type 0
Evaluates K m word n rows g = (j : ℕ) → j < length m.gates → (t : ℕ) → t < n → Reads K word rows g (gate_at m.gates j) t (g j t)

-- a pair is met at some row from back on
abbrev pub Comes : ℕ → ℕ → (ℕ → Bool) → (ℕ → Bool) → Type 0
Comes n back from to = (t : ℕ) × (back ≤ t) × (t < n) × Met (from t) (to t)

-- the n rows pass
pub record Passes (K : Kind) (m : Tables) (word : Word K.Value) (n back p : ℕ) (rows g : Bits) : Type 0 where
  pub gates : Evaluates K m word n rows g
  pub starts : (j : ℕ) → j < length m.variables → Starts (variable_at m.variables j) (rows j)
  pub equations : (j : ℕ) → j < length m.variables → (t : ℕ) → t < n → Equation g (variable_at m.variables j) (rows j) t (after n back t)
  pub root : g m.root (row_at n back p) ≡ true
  pub fair : (j : ℕ) → j < length m.pairs → Comes n back (g (pair_at m.pairs j).from) (g (pair_at m.pairs j).to)

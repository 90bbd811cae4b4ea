-- The runs of a machine on a word, and which of them it accepts. A word of any kind is read as bits: a signal is 1
-- where its value is yes.
use Rattle.std.specs.Prelude.{◌≡◌, ℕ, zero, suc, ◌<◌, ◌≤◌, Bool, true, false, cond, not, ◌&&◌, ◌||◌, ◌⊎◌, ◌↔◌, List, length, nat_lt, slice_index}
use Rattle.recording.specs.Kind.{Kind}
use Rattle.recording.specs.Tape.{bit}
use Rattle.recording.specs.Word.{Word}
use Rattle.machine.specs.declared.gate.Gate.{Gate}
use Rattle.machine.specs.declared.gate.Gate.TheVariants as gate
use Rattle.machine.specs.declared.gate.Variable.{Variable}
use Rattle.machine.specs.declared.gate.Variable.TheVariants as variable
use Rattle.machine.specs.Tables.{Tables, gate_at, variable_at, pair_at}

-- a bit for each variable, or for each gate, at each position
abbrev pub Bits : Type 0
Bits = ℕ → ℕ → Bool

-- b is what a gate is at position t, where run are the variables' bits and g those of the earlier gates
abbrev pub Reads : (K : Kind) → Word K.Value → Bits → Bits → Gate → ℕ → Bool → Type 0
Reads K word run g (gate.Const c) t b = b ≡ c
Reads K word run g (gate.Signal i) t b = (b ≡ true) ↔ (word.at i t ≡ K.Yes)
Reads K word run g (gate.Var j) t b = b ≡ run j t
Reads K word run g (gate.Not a) t b = b ≡ not (g a t)
Reads K word run g (gate.And a c) t b = b ≡ (g a t && g c t)
Reads K word run g (gate.Or a c) t b = b ≡ (g a t || g c t)

-- a variable's start, where q are its bits
abbrev pub Starts : Variable → (ℕ → Bool) → Type 0
Starts (variable.Next a) q = Unit {0}
Starts (variable.Until a b) q = Unit {0}
Starts (variable.Back a s) q = q 0 ≡ s

-- a variable's equation from position t to the next, u, where g are the gates' bits
abbrev pub Equation : Bits → Variable → (ℕ → Bool) → ℕ → ℕ → Type 0
Equation g (variable.Next a) q t u = q t ≡ g a u
Equation g (variable.Until a b) q t u = q t ≡ (g b t || (g a t && q u))
Equation g (variable.Back a s) q t u = q u ≡ g a t

-- run is a run, and g are the bits of its gates
pub record IsRun (K : Kind) (m : Tables) (word : Word K.Value) (run g : Bits) : Type 0 where
  pub gates : (j : ℕ) → j < length m.gates → (t : ℕ) → Reads K word run g (gate_at m.gates j) t (g j t)
  pub starts : (j : ℕ) → j < length m.variables → Starts (variable_at m.variables j) (run j)
  pub equations : (j : ℕ) → j < length m.variables → (t : ℕ) → Equation g (variable_at m.variables j) (run j) t (suc t)

-- from is 0 or to is 1
abbrev pub Met : Bool → Bool → Type 0
Met from to = (from ≡ false) ⊎ (to ≡ true)

-- each pair is met at infinitely many positions
abbrev pub Often : (ℕ → Bool) → (ℕ → Bool) → Type 0
Often from to = (n : ℕ) → (t : ℕ) × (n ≤ t) × Met (from t) (to t)

abbrev pub Fair : Tables → Bits → Type 0
Fair m g = (j : ℕ) → j < length m.pairs → Often (g (pair_at m.pairs j).from) (g (pair_at m.pairs j).to)

-- an accepting run, from position p: the root is 1 there
pub record Accepting (K : Kind) (m : Tables) (word : Word K.Value) (p : ℕ) (run g : Bits) : Type 0 where
  pub is_run : IsRun K m word run g
  pub root : g m.root p ≡ true
  pub fair : Fair m g

module _ (K : Kind) (m : Tables) (word : Word K.Value) where
  abbrev pub Runs : Bits → Type 0
  Runs run = (g : Bits) × IsRun K m word run g

  abbrev pub Accepts : ℕ → Bits → Type 0
  Accepts p run = (g : Bits) × Accepting K m word p run g

  abbrev pub HasAcceptingRun : ℕ → Type 0
  HasAcceptingRun p = (run : Bits) × Accepts p run

-- the row that comes after row i of n rows: after the last comes row back
abbrev pub after : ℕ → ℕ → ℕ → ℕ
after n back i = cond (nat_lt (suc i) n) (suc i) back

-- the row that stands at position t
abbrev pub row_at : ℕ → ℕ → ℕ → ℕ
row_at n back zero = 0
row_at n back (suc t) = after n back (row_at n back t)

-- n rows as an endless run
abbrev pub endless : ℕ → ℕ → Bits → Bits
endless n back rows j t = rows j (row_at n back t)

-- the bits that rows of bits give: bit j of row t is variable j
abbrev pub row_bits : List ℕ → Bits
row_bits rows j t = bit (slice_index rows t) j

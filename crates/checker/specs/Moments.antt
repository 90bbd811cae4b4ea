-- What the code keeps of a row.
use Rattle.std.specs.Prelude.{◌≡◌, ℕ, zero, suc, ◌<◌, Bool, false, not, ◌||◌, List, length, slice_index, slice_index_or}
use Rattle.recording.specs.Kind.{Kind}
use Rattle.recording.specs.Tape.{bit}
use Rattle.recording.specs.Word.{Word}
use Rattle.machine.specs.declared.gate.Gate.{Gate}
use Rattle.machine.specs.declared.gate.Pair.{Pair}
use Rattle.checker.specs.declared.moment.Moment.{Moment}
use Rattle.laws.specs.Runs.{Bits, Reads, row_bits}
use Rattle.machine.specs.Tables.{gate_at}

-- the bits of gates in a list, at any position
abbrev pub listed : List Bool → Bits
listed values a t = slice_index_or values a false

-- the moment x is row t, with what the gates are there
pub record MomentAt (K : Kind) (gates : List Gate) (word : Word K.Value) (rows : List ℕ) (t : ℕ) (x : Moment) : Type 0 where
  pub row : x.row ≡ slice_index rows t
  pub values : (j : ℕ) → j < length gates → Reads K word (row_bits rows) (listed x.values) (gate_at gates j) t (slice_index_or x.values j false)

-- two moments as positions 0 and 1: the bits of the gates, and of a variable
abbrev pub gates_from : Moment → Moment → Bits
gates_from x y a zero = slice_index_or x.values a false
gates_from x y a (suc t) = slice_index_or y.values a false

abbrev pub bits_from : Moment → Moment → Bits
bits_from x y j zero = bit x.row j
bits_from x y j (suc t) = bit y.row j

-- from is 0 or to is 1 in a moment
abbrev pub is_met : Pair → Moment → Bool
is_met p x = not (slice_index_or x.values p.from false) || slice_index_or x.values p.to false

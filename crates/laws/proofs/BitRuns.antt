-- Runs on a word of bits, with each gate as an equation; and runs on a word of a two-valued kind read so.
use Rattle.std.proofs.Common.{◌≡◌, ℕ, suc, ◌<◌, Bool, not, ◌&&◌, ◌||◌, length, sym, ◌∙◌}
use Rattle.recording.specs.Kind.{Kind, TwoValued}
use Rattle.recording.specs.Word.{Word}
use Rattle.machine.specs.declared.gate.Gate.{Gate}
use Rattle.machine.specs.declared.gate.Gate.TheVariants as gate
use Rattle.laws.specs.Runs.{Bits, Reads, Starts, Equation, IsRun}
use Rattle.machine.specs.Tables.{Tables, gate_at, variable_at}
use Rattle.laws.proofs.AsBits.{is_yes, bits_of, yes_is, is_yes_of}
use Rattle.laws.proofs.Behave.{same_bit}

-- what a gate is at t: g are the gates' bits, run the variables'
abbrev pub gate_bit : Word Bool → Bits → Bits → Gate → ℕ → Bool
gate_bit word run g (gate.Const b) t = b
gate_bit word run g (gate.Signal i) t = word.at i t
gate_bit word run g (gate.Var j) t = run j t
gate_bit word run g (gate.Not a) t = not (g a t)
gate_bit word run g (gate.And a b) t = g a t && g b t
gate_bit word run g (gate.Or a b) t = g a t || g b t

pub record BitRun (m : Tables) (word : Word Bool) (run g : Bits) : Type 0 where
  pub gates : (j : ℕ) → j < length m.gates → (t : ℕ) → g j t ≡ gate_bit word run g (gate_at m.gates j) t
  pub starts : (j : ℕ) → j < length m.variables → Starts (variable_at m.variables j) (run j)
  pub equations : (j : ℕ) → j < length m.variables → (t : ℕ) → Equation g (variable_at m.variables j) (run j) t (suc t)

module _ (K : Kind) (only : TwoValued K) (m : Tables) (word : Word K.Value) (run g : Bits) where
  pub read_bit : (z : Gate) (t : ℕ) (b : Bool) → Reads K word run g z t b → b ≡ gate_bit (bits_of K only word) run g z t
  read_bit (gate.Const c) t b h = h
  read_bit (gate.Signal i) t b h =
      same_bit b (is_yes K only (word.at i t)) (λ e. is_yes_of K only (word.at i t) (h.0 e)) (λ e. h.1 (yes_is K only (word.at i t) e))
  read_bit (gate.Var j) t b h = h
  read_bit (gate.Not a) t b h = h
  read_bit (gate.And a c) t b h = h
  read_bit (gate.Or a c) t b h = h

  pub bit_read : (z : Gate) (t : ℕ) (b : Bool) → b ≡ gate_bit (bits_of K only word) run g z t → Reads K word run g z t b
  bit_read (gate.Const c) t b h = h
  bit_read (gate.Signal i) t b h =
      (λ e. yes_is K only (word.at i t) (sym h ∙ e), λ e. h ∙ is_yes_of K only (word.at i t) e)
  bit_read (gate.Var j) t b h = h
  bit_read (gate.Not a) t b h = h
  bit_read (gate.And a c) t b h = h
  bit_read (gate.Or a c) t b h = h

  pub to_bits : IsRun K m word run g → BitRun m (bits_of K only word) run g
  to_bits is = record { gates = λ j hj t. read_bit (gate_at m.gates j) t (g j t) (is.gates j hj t); starts = is.starts; equations = is.equations }

  pub from_bits : BitRun m (bits_of K only word) run g → IsRun K m word run g
  from_bits is = record { gates = λ j hj t. bit_read (gate_at m.gates j) t (g j t) (is.gates j hj t); starts = is.starts; equations = is.equations }

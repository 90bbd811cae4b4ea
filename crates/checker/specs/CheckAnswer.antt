-- What checking a run answers.
use Rattle.std.specs.Prelude.{ℕ, ◌<◌, ◌≤◌, Bool, List, length, Ok, Err, Decides, Result}
use Rattle.recording.specs.Kind.{Kind}
use Rattle.recording.specs.Tape.{Within}
use Rattle.recording.specs.Word.{Word, meant}
use Rattle.checker.specs.declared.refusal.CheckRefusal.{CheckRefusal}
use Rattle.checker.specs.declared.refusal.CheckRefusal.TheVariants.{NoSignal, BadShape, StrayBit}
use Rattle.laws.specs.Checks.{HasGateSignals, Turns}
use Rattle.laws.specs.Runs.{Accepts, endless, row_bits}
use Rattle.machine.specs.Tables.{Tables}

-- n rows, after the last of which comes row back, may be a run on the word
pub record Shape {V : Type 0} (word : Word V) (n back : ℕ) : Type 0 where
  pub some : 0 < n
  pub few : n ≤ 4352
  pub turns : Turns word n back

module _ (K : Kind) {V : Type 0} (means : V → K.Value) (m : Tables) (word : Word V) (rows : List ℕ) (back : ℕ) where
  -- the endless run that the rows stand for is accepting
  abbrev pub Accepted : Type 0
  Accepted = Accepts K m (meant means word) 0 (endless (length rows) back (row_bits rows))

  -- refusals come in the order of their numbers; else the answer tells whether the run is accepting
  abbrev pub Answer : Result Bool CheckRefusal → Type 0
  Answer (Err NoSignal) = HasGateSignals m.gates word.signals → ⊥
  Answer (Err BadShape) = HasGateSignals m.gates word.signals × (Shape word (length rows) back → ⊥)
  Answer (Err StrayBit) = HasGateSignals m.gates word.signals × Shape word (length rows) back × (Within (length m.variables) rows → ⊥)
  Answer (Ok r) = HasGateSignals m.gates word.signals × Shape word (length rows) back × Within (length m.variables) rows × Decides r Accepted

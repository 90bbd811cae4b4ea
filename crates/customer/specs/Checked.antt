-- What is told of a run that was written out and then checked.
use Rattle.std.specs.Prelude.{ℕ, Bool, List, Ok, Err, Decides, Result}
use Rattle.recording.specs.Kind.{Kind}
use Rattle.recording.specs.Word.{Word, meant}
use Rattle.sheet.specs.declared.line.Line.{Line}
use Rattle.meaning.specs.Sheet.{Values, Holds, rule_of}
use Rattle.laws.specs.Laws.{TheValues}
use Rattle.run.specs.declared.refusal.WriteRefusal.{WriteRefusal}
use Rattle.run.specs.Writing.{WritesOut}

-- the check says yes exactly when the rule holds at sample 0, by the one valuation of the lines; what is refused is the
-- writing out, and that leaves cells and rows
abbrev pub RunChecked : (K : Kind) {V : Type 0} (means : V → K.Value) → List Line → Word V → List V → List V → List ℕ → List ℕ → Result Bool WriteRefusal → Type 0
RunChecked K means lines w cells cells' rows rows' (Ok yes_said) =
    (f : ℕ → Values K) × TheValues K (meant means w) lines f × Decides yes_said (Holds K f (rule_of lines) 0)
RunChecked K means lines w cells cells' rows rows' (Err e) = WritesOut K means lines w cells cells' rows rows' (Err e)

-- What judging a draft once answers: that there is no line to seal, or what judging the sealed lines answers.
use Rattle.std.specs.Prelude.{◌≡◌, List, [], Ok, Err, Result}
use Rattle.recording.specs.Kind.{Kind}
use Rattle.recording.specs.Word.{Word}
use Rattle.sheet.specs.declared.line.Line.{Line}
use Rattle.sheet.specs.declared.refusal.Refusal.TheVariants.{Empty}
use Rattle.meaning.specs.Sheet.{rule_of}
use Rattle.meaning.specs.Verdict.{Verdict}
use Rattle.foreign.specs.declared.once.Fault.{Fault}
use Rattle.foreign.specs.declared.once.Fault.TheVariants.{Sealing, Judging}

module _ (K : Kind) {V : Type 0} (means : V → K.Value) (lines : List Line) (w : Word V) (before after : List V) where
  abbrev pub JudgedOnce : Result V Fault → Type 0
  JudgedOnce (Ok answer) = Verdict K means lines w (rule_of lines) 0 before after (Ok answer)
  JudgedOnce (Err (Judging e)) = Verdict K means lines w (rule_of lines) 0 before after (Err e)
  JudgedOnce (Err (Sealing e)) = (e ≡ Empty) × (lines ≡ []) × (after ≡ before)

-- What the calls have in common: names, a recording, and a rule text, looked at in this order.
use Rattle.std.specs.Prelude.{ℕ, List, [], Ok, Err, Result}
use Rattle.lexer.specs.Names.{Good, names_of}
use Rattle.lexer.specs.declared.names.NamesRefusal.{NamesRefusal}
use Rattle.recording.specs.declared.refusal.TapeRefusal.{TapeRefusal}
use Rattle.sheet.specs.declared.line.Line.{Line}
use Rattle.text.specs.declared.fault.Fault.{Fault}
use Rattle.text.specs.Reading.{FirstFault, Fitting}
use Rattle.text.specs.Rules.{Rule, written}
use Rattle.yungaslid.specs.declared.answer.Answer.{Answer}
use Rattle.yungaslid.specs.Answers.{refused_names, refused_tape, refused_text}

-- the lines of the rule text, or the first refusal; Taped says that the recording can be made
pub data Opens (names rule : List ℕ) (Taped : Type 0) : Result (List Line) Answer → Type 0 where
  misnamed : (e : NamesRefusal) → (Good names → ⊥) → Opens names rule Taped (Err (refused_names e))
  untaped : (e : TapeRefusal) → Good names → (Taped → ⊥) → Opens names rule Taped (Err (refused_tape e))
  faulty : (f : Fault) → Good names → Taped → FirstFault (names_of names) rule [] f → Opens names rule Taped (Err (refused_text f))
  ruled : (r : Rule) → Good names → Taped → Fitting (names_of names) rule [] r → Opens names rule Taped (Ok (written [] r))

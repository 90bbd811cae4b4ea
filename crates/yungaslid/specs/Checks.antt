-- What checking a run of a rule's machine on a tape answers.
use Rattle.std.specs.Prelude.{ℕ, Bool, cond, List, Ok, Err, Result}
use Rattle.recording.specs.Kinds.{two}
use Rattle.recording.specs.Tape.{Fits, tape}
use Rattle.sheet.specs.declared.line.Line.{Line}
use Rattle.checker.specs.CheckAnswer as run
use Rattle.machine.specs.Translation.{translate}
use Rattle.checker.specs.declared.refusal.CheckRefusal.{CheckRefusal}
use Rattle.yungaslid.specs.declared.answer.Answer.{Answer}
use Rattle.yungaslid.specs.Answers.{answered, refused_check}
use Rattle.yungaslid.specs.Opening.{Opens}

module _ (names rule : List ℕ) (signals stem cycle : ℕ) (masks rows : List ℕ) (back : ℕ) where
  -- the masks fit a tape of these sizes
  abbrev pub Taped : Type 0
  Taped = Fits signals stem cycle masks

  abbrev pub Opened : Result (List Line) Answer → Type 0
  Opened r = Opens names rule Taped r

  -- what the run check says of the machine of the lines
  abbrev pub Checked : List Line → Taped → Result Bool CheckRefusal → Type 0
  Checked ls fits r = run.Answer two (λ x. x) (translate ls) (tape signals stem cycle masks fits.sizes) rows back r

  pub data Checks : Answer → Type 0 where
    refused : (a : Answer) → Opened (Err a) → Checks a
    unchecked : (e : CheckRefusal) (ls : List Line) (fits : Taped) → Opened (Ok ls) → Checked ls fits (Err e) → Checks (refused_check e)
    checked : (b : Bool) (ls : List Line) (fits : Taped) → Opened (Ok ls) → Checked ls fits (Ok b) → Checks (answered (cond b 1 0))

-- What checking a run on a bench answers.
use Rattle.std.specs.Prelude.{◌≡◌, ℕ, Bool, List, Ok, Err, Some, None, Option, Result}
use Rattle.recording.specs.Kind.{Kind}
use Rattle.recording.specs.Kinds.{two}
use Rattle.recording.specs.Made.{tape_word, wheel_word}
use Rattle.recording.specs.Word.{Word}
use Rattle.checker.specs.CheckAnswer as machine
use Rattle.checker.specs.Refusals.{number_of}
use Rattle.machine.specs.Tables.{Tables}
use Rattle.checker.specs.declared.refusal.CheckRefusal.{CheckRefusal}
use Rattle.session.specs.declared.answer.Answer.{Answer}
use Rattle.session.specs.declared.answer.Answer.TheVariants as answer
use Rattle.session.specs.declared.bench.Recorded.{Recorded}
use Rattle.session.specs.declared.bench.Recorded.TheVariants as recorded

-- how what the check answers is told
abbrev pub told : Result Bool CheckRefusal → Answer
told (Ok b) = answer.Accepting b
told (Err e) = answer.Refused (number_of e)

-- the answer to a check of these rows, where each row and the number of the row that comes again may be of any size
abbrev pub Checks : (K : Kind) {V : Type 0} → (V → K.Value) → Tables → Word V → List ℕ → ℕ → Answer → Type 0
Checks K means m w rows back a = (r : Result Bool CheckRefusal) × machine.Answer K means m w rows back r × (a ≡ told r)

-- a run is checked on a two-valued recording alone
abbrev pub OnRecorded : Option Recorded → Tables → List ℕ → ℕ → Answer → Type 0
OnRecorded None m rows back a = a ≡ answer.NoRecording
OnRecorded (Some (recorded.Plain t)) m rows back a = Checks two (λ x. x) m (tape_word t) rows back a
OnRecorded (Some (recorded.Gapped t)) m rows back a = a ≡ answer.NotTwoValued
OnRecorded (Some (recorded.Turning x)) m rows back a = Checks two (λ x. x) m (wheel_word x) rows back a

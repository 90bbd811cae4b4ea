-- What the parts of the reader answer and leave.
use Rattle.std.specs.Prelude.{◌≡◌, ℕ, ◌+◌, ◌<◌, ◌⊎◌, List, ◌++◌, length, Ok, Err, Result, ◌≢◌, slice_index}
use Rattle.sheet.specs.declared.line.Line.{Line}
use Rattle.sheet.specs.declared.refusal.Refusal.TheVariants.{Full}
use Rattle.text.specs.declared.sign.Infix.{Infix}
use Rattle.text.specs.declared.reader.Done.{Done}
use Rattle.text.specs.declared.fault.Fault.{Fault}
use Rattle.text.specs.declared.fault.Fault.TheVariants.{Byte, Early, Sheet as OfSheet}
use Rattle.text.specs.Guards.{Grown}
use Rattle.text.specs.Rules.{Rule, written, infix_sign}
use Rattle.text.specs.Reading.{Reads, Stands, Faulty}

-- the sheet took all these lines, or was full before the last of them
abbrev pub Wrote : List Line → List Line → List Line → ℕ → Result ℕ Fault → Type 0
Wrote before after own at (Ok n) = (after ≡ before ++ own) × (n + 1 ≡ length after) × (n < 64)
Wrote before after own at (Err f) = (f ≡ OfSheet Full at) × (64 < length (before ++ own))

abbrev pub ByteAt : List ℕ → ℕ → Result ℕ Fault → Type 0
ByteAt text p (Ok b) = Stands text p b
ByteAt text p (Err f) = (f ≡ Early p) × (p ≡ length text)

-- the text ends at p, or its byte there is none of those that may stand
abbrev pub Missing : List ℕ → ℕ → Type 0 → Fault → Type 0
Missing text p Other f = ((f ≡ Early p) × (p ≡ length text)) ⊎ ((f ≡ Byte p) × (p < length text) × Other)

abbrev pub InfixAt : List ℕ → ℕ → Result Infix Fault → Type 0
InfixAt text p (Ok s) = Stands text p (infix_sign s)
InfixAt text p (Err f) = Missing text p ((s : Infix) → infix_sign s ≢ slice_index text p) f

abbrev pub CloseAt : List ℕ → ℕ → Result (Unit {0}) Fault → Type 0
CloseAt text p (Ok u) = Stands text p 41
CloseAt text p (Err f) = Missing text p (slice_index text p ≢ 41) f

-- a unit that was read, and the lines after it
pub record Whole (names : List (List ℕ)) (text : List ℕ) (n : ℕ) (before after : List Line) (at : ℕ) (d : Done) (r : Rule) : Type 0 where
  pub reads : Reads names text n before at r d.end
  pub lines : after ≡ written before r
  pub line : d.line + 1 ≡ length after

abbrev pub Outcome : List (List ℕ) → List ℕ → ℕ → List Line → List Line → ℕ → Result Done Fault → Type 0
Outcome names text n before after at (Ok d) = (r : Rule) × Whole names text n before after at d r
Outcome names text n before after at (Err f) = Faulty names text n before at f × Grown before after

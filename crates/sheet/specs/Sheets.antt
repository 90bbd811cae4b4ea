-- What the sheet's types mean to the ledger: their lines, their form, their answers.
use Rattle.std.specs.Prelude.{ℕ, List, Ok, Err, Result}
use Rattle.sheet.specs.declared.draft.Draft.{Draft}
use Rattle.sheet.specs.declared.line.Line.{Line}
use Rattle.sheet.specs.declared.refusal.Refusal.{Refusal}
use Rattle.sheet.specs.declared.sealed.Sealed.{Sealed}
use Rattle.sheet.specs.declared.sealed.Unsealed.{Unsealed}
use Rattle.sheet.specs.Ledger.{Ledger, Answer, Drafted, Shut, Written, Done, Refused}
use Rattle.sheet.specs.Refusals.{number_of}

abbrev pub lines_of : Draft → List Line
lines_of d = d.lines

abbrev pub sealed_lines : Sealed → List Line
sealed_lines s = lines_of s.draft

abbrev pub drafted : Draft → Ledger
drafted d = record { lines = lines_of d; form = Drafted }

abbrev pub shut : Sealed → Ledger
shut s = record { lines = sealed_lines s; form = Shut }

abbrev pub written : Result ℕ Refusal → Answer
written (Ok n) = Written n
written (Err e) = Refused (number_of e)

abbrev pub done : Result Unit Refusal → Answer
done (Ok u) = Done
done (Err e) = Refused (number_of e)

-- a refused seal hands the draft back
abbrev pub sealing : Result Sealed Unsealed → Answer × Ledger
sealing (Ok s) = (Done, shut s)
sealing (Err u) = (Refused (number_of u.refusal), drafted u.draft)

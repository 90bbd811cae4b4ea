-- Which call of the library a call of a script is, and what the script is told of its answer.
use Rattle.std.specs.Prelude.{ℕ, List, [], ◌∷◌, length}
use Rattle.recording.specs.Word.{Word}
use Rattle.recording.specs.declared.truth.Ternary.{Ternary}
use Rattle.sheet.specs.Ledger.{Ledger, Form, Drafted, Shut}
use Rattle.sheet.specs.declared.line.Line.{Line}
use Rattle.meaning.specs.Verdict.{horizon}
use Rattle.run.specs.declared.answer.Answer as reply_of
use Rattle.run.specs.declared.answer.Answer.TheVariants as reply
use Rattle.run.specs.Refusals.{refused_number}
use Rattle.run.specs.declared.call.Call.{Call}
use Rattle.run.specs.declared.call.Call.TheVariants as library
use Rattle.asked.specs.declared.call.SheetCall.{SheetCall}
use Rattle.asked.specs.declared.call.SheetCall.TheVariants as call
use Rattle.session.specs.declared.answer.Answer.{Answer}
use Rattle.session.specs.declared.answer.Answer.TheVariants as answer
use Rattle.session.specs.declared.answer.Filled.{Filled}

-- a script has one recording at most, of number 0
abbrev pub made_as : SheetCall → Call
made_as (call.Write c a b) = library.Write c a b
made_as call.Strike = library.Strike
made_as call.Seal = library.Seal
made_as call.Reopen = library.Reopen
made_as call.Translate = library.Translate
made_as call.Judge = library.Judge 0
made_as call.Run = library.WriteOut 0

-- how many samples the lines are judged on, with the first of these words
abbrev pub samples_on : {V : Type 0} → List Line → List (Word V) → ℕ
samples_on lines [] = 0
samples_on lines (w ∷ ws) = horizon lines w

-- how much judging fills: nothing while the sheet is a draft
abbrev pub filled_by_form : {V : Type 0} → Form → List Line → List (Word V) → Filled
filled_by_form Drafted lines ws = record { lines = 0; samples = 0 }
filled_by_form Shut lines ws = record { lines = length lines; samples = samples_on lines ws }

abbrev pub filled_on : {V : Type 0} → Ledger → List (Word V) → Filled
filled_on l ws = filled_by_form l.form l.lines ws

-- after translating the tables are told
abbrev pub done_as : SheetCall → Answer
done_as (call.Write c a b) = answer.Done
done_as call.Strike = answer.Done
done_as call.Seal = answer.Done
done_as call.Reopen = answer.Done
done_as call.Translate = answer.Tables
done_as call.Judge = answer.Done
done_as call.Run = answer.Done

-- what the script is told, with each value among no, lost and yes; `lacking` where there is no recording to call on
abbrev pub told : {V W : Type 0} → (V → Ternary) → (W → Ternary) → SheetCall → Filled → Answer → reply_of.Answer V W → Answer
told three raise c filled lacking (reply.Line n) = answer.Line n
told three raise c filled lacking reply.Done = done_as c
told three raise c filled lacking (reply.Refused e) = answer.Refused (refused_number e)
told three raise c filled lacking (reply.Verdict v) = answer.Values (record { verdict = three v; filled = filled })
told three raise c filled lacking (reply.Run r) = answer.Run (record { rows = r.rows; back = r.back; verdict = raise r.verdict })
told three raise c filled lacking (reply.NotWhile x) = answer.NotWhile x
told three raise c filled lacking reply.NoRecording = lacking

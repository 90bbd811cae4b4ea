-- What a line of a script answers, and what it leaves of all that its call is made on.
use Rattle.std.specs.Prelude.{◌≡◌, ℕ, List, Some, None, Option}
use Rattle.machine.specs.Machines.{tables}
use Rattle.run.specs.Histories.{ledger_of, step}
use Rattle.asked.specs.Reading.{Said, said, call_on, call_verb}
use Rattle.asked.specs.Runs.{call_without_runs}
use Rattle.asked.specs.declared.call.Call.{Call}
use Rattle.asked.specs.declared.call.Call.TheVariants as call
use Rattle.session.specs.Answering.{Answers}
use Rattle.session.specs.Performing.{OnBench}
use Rattle.session.specs.Replies.{made_as}
use Rattle.session.specs.declared.answer.Answer.{Answer}
use Rattle.talk.specs.declared.Calls.{Calls}
use Rattle.talk.specs.declared.Calls.TheVariants as calls
use Rattle.talk.specs.declared.Desk.{Desk}
use Rattle.telling.specs.declared.told.Told.{Told}

-- the call that a line is, of those that the script has
abbrev pub read_by : Calls → List ℕ → Option Said
read_by calls.All line = call_on line
read_by calls.WithoutRuns line = call_without_runs line

-- a call on the sheet leaves of the bench what it says; one on the bench leaves sheet and machine as they were
abbrev pub Made : Call → Desk → Desk → Answer → Type 0
Made (call.OnSheet c) before after a =
    (ledger_of after.sheet ≡ step (ledger_of before.sheet) (made_as c)) × OnBench before.bench.recorded (ledger_of before.sheet) c a (tables before.machine) (tables after.machine) before.bench after.bench
Made (call.OnBench c) before after a =
    Answers c (tables before.machine) before.bench after.bench a × (after.sheet ≡ before.sheet) × (after.machine ≡ before.machine)

-- the answer is told with the name of its call
pub record Tells (c : Call) (before after : Desk) (t : Told) : Type 0 where
  pub name : t.verb ≡ call_verb c
  pub made : Made c before after t.answer

-- a line that is a call is answered as that call is; another changes nothing
abbrev pub Answered : Option Said → Desk → Desk → Option Told → Type 0
Answered o before after None = (o ≡ None) × (after ≡ before)
Answered o before after (Some t) = (c : Call) × (o ≡ Some (said c)) × Tells c before after t

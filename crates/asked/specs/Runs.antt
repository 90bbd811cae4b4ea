-- A script without the calls that write runs out.
use Rattle.std.specs.Prelude.{ℕ, Bool, true, false, cond, List, Some, None, Option}
use Rattle.asked.specs.declared.call.Call.{Call}
use Rattle.asked.specs.declared.call.Verb.{Verb}
use Rattle.asked.specs.declared.call.Verb.TheVariants as verb
use Rattle.asked.specs.Reading.{Said, OnSheet, Tape, Gapped, Wheel, Cells, Rows, Check, call_verb, sheet_verb, call_on}

-- whether calls of this name write runs out, or lend rows for that
abbrev pub is_for_runs : Verb → Bool
is_for_runs verb.Write = false
is_for_runs verb.Strike = false
is_for_runs verb.Seal = false
is_for_runs verb.Reopen = false
is_for_runs verb.Translate = false
is_for_runs verb.Tape = false
is_for_runs verb.Gapped = false
is_for_runs verb.Wheel = false
is_for_runs verb.Cells = false
is_for_runs verb.Rows = true
is_for_runs verb.Judge = false
is_for_runs verb.Run = true
is_for_runs verb.Check = false

abbrev pub without_runs : Call → Option Call
without_runs c = cond (is_for_runs (call_verb c)) None (Some c)

-- the name of what a line says
abbrev pub said_verb : Said → Verb
said_verb (OnSheet c) = sheet_verb c
said_verb (Tape sizes masks) = verb.Tape
said_verb (Gapped sizes masks lost) = verb.Gapped
said_verb (Wheel teeth gap start) = verb.Wheel
said_verb (Cells n) = verb.Cells
said_verb (Rows n) = verb.Rows
said_verb (Check back rows) = verb.Check

-- what is said, unless it is for runs
abbrev pub said_without_runs : Option Said → Option Said
said_without_runs None = None
said_without_runs (Some s) = cond (is_for_runs (said_verb s)) None (Some s)

-- the call that a line is, if it is one and not for runs
abbrev pub call_without_runs : List ℕ → Option Said
call_without_runs line = said_without_runs (call_on line)

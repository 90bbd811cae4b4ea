-- What the machine place is after a translation.
use Rattle.std.specs.Prelude.{◌≡◌, ℕ, suc, ◌↔◌, List, length, take, slice_index_or}
use Rattle.recording.specs.Kind.{Kind}
use Rattle.sheet.specs.declared.line.Line.{Line}
use Rattle.sheet.specs.Ledger.{Ledger}
use Rattle.laws.specs.Laws.{OnWords}
use Rattle.laws.specs.Runs.{HasAcceptingRun}
use Rattle.machine.specs.Tables.{Tables}
use Rattle.meaning.specs.Sheet.{Holds, rule_of}
use Rattle.run.specs.declared.call.Call.{Call}
use Rattle.run.specs.declared.call.Call.TheVariants.{Strike, Translate}
use Rattle.run.specs.Histories.{after}
use Rattle.customer.specs.Alike.{sealed}

-- Where the last call translated sealed lines, the machine has an accepting run, on any word with their signals, exactly
-- when the rule holds at sample 0.
abbrev pub LastMachine : Kind → Tables → Ledger → List Call → Type 0
LastMachine B machine l calls =
    (n : ℕ) (lines : List Line) → suc n ≡ length calls → slice_index_or calls n Strike ≡ Translate → after l (take n calls) ≡ sealed lines
    → OnWords B lines (λ word f. HasAcceptingRun B machine word 0 ↔ Holds B f (rule_of lines) 0)

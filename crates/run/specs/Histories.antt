-- The ledger of a sheet over a list of calls.
use Rattle.std.specs.Prelude.{List, Some, None, fold, Option}
use Rattle.sheet.specs.Ledger as ledger
use Rattle.sheet.specs.Ledger.{Ledger, Form, Drafted, Shut, fed}
use Rattle.sheet.specs.Sheets.{drafted, shut}
use Rattle.run.specs.declared.call.Call.{Call}
use Rattle.run.specs.declared.call.Call.TheVariants.{Write, Strike, Seal, Reopen, Translate, Judge, WriteOut}
use Rattle.run.specs.declared.form.Sheet.{Sheet}
use Rattle.run.specs.declared.form.Sheet.TheVariants as sheet

-- the lines and the form that a sheet has
abbrev pub ledger_of : Sheet → Ledger
ledger_of (sheet.Open d) = drafted d
ledger_of (sheet.Shut s) = shut s

-- what the ledger is fed: a draft is written, struck and sealed, a sealed sheet is reopened. A call that the form does
-- not have is none, and translating, judging and writing out feed the ledger nothing.
abbrev pub feeds : Form → Call → Option ledger.Call
feeds Drafted (Write c a b) = Some (ledger.Write c a b)
feeds Drafted Strike = Some ledger.Strike
feeds Drafted Seal = Some ledger.Seal
feeds Drafted Reopen = None
feeds Drafted Translate = None
feeds Drafted (Judge i) = None
feeds Drafted (WriteOut i) = None
feeds Shut (Write c a b) = None
feeds Shut Strike = None
feeds Shut Seal = None
feeds Shut Reopen = Some ledger.Reopen
feeds Shut Translate = None
feeds Shut (Judge i) = None
feeds Shut (WriteOut i) = None

abbrev pub fed_with : Option ledger.Call → Ledger → Ledger
fed_with None l = l
fed_with (Some c) l = (fed l c).1

-- the ledger after one call
abbrev pub step : Ledger → Call → Ledger
step l c = fed_with (feeds l.form c) l

-- the ledger after these calls
unfoldable pub after : Ledger → List Call → Ledger
after l calls = fold step l calls

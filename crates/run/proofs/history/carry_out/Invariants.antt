use Rattle.std.proofs.Common.{◌≡◌, ◌≤◌, length, take, drop}
use Rattle.machine.specs.Machines.{tables}
use Rattle.run.specs.Histories.{ledger_of, after}
use Rattle.run.specs.Story.{heard, lent, Story}
use Rattle.run.proofs.Going.{LawTo}
use Rattle.run.proofs.history.carry_out.Given as goal

abbrev pub invariant-loop-i : goal.invariant-loop-i
invariant-loop-i g l =
    let k = g.R.Truth.Truth in
    let b = g.B.Truth.Truth in
    (l.i ≤ length l.calls)
    × (ledger_of l.sheet ≡ after (ledger_of l.initial.sheet) (take l.i l.calls))
    × Story (heard k.kind k.means g.R.Recording.word l.judged) (heard b.kind b.means g.B.Recording.word l.written)
    (ledger_of l.initial.sheet)
    (lent (tables l.initial.machine) l.initial.cells l.initial.bits l.initial.rows)
    (take l.i l.calls) (take l.i l.answers)
    (lent (tables l.machine) l.cells l.bits l.rows)
    × (drop l.i l.answers ≡ drop l.i l.initial.answers)
    × LawTo k.kind b.kind (ledger_of l.initial.sheet) l.calls l.i

use Rattle.std.proofs.Common.{◌≡◌, ◌++◌, ap, ◌∙◌, subst}
use Rattle.machine.specs.Machines.{tables}
use Rattle.run.specs.declared.call.Call.{Call}
use Rattle.run.specs.Histories.{ledger_of, step}
use Rattle.run.specs.Law.{WhileSealed}
use Rattle.run.specs.Story.{heard, Lent, lent, Tells}
use Rattle.session.specs.Performing.{front}
use Rattle.session.specs.Replies.{made_as}
use Rattle.session.proofs.Lending.{take_lent, drop_lent}
use Rattle.session.proofs.Telling.{told_after}
use Rattle.session.proofs.performing.perform_with.Goals as goal

pub returns-clause-performs : goal.returns-clause-performs
returns-clause-performs g c =
    let judged = heard g.R.Truth.Truth.kind g.R.Truth.Truth.means g.R.Recording.word c.args.judged.now in
    let written = heard g.B.Truth.Truth.kind g.B.Truth.Truth.means g.B.Recording.word c.args.written.now in
    let l = ledger_of c.args.sheet in
    let p = c.args.lending in
    let made = c.perform-stepped in
    let ledger : ledger_of made.result.sheet ≡ step l (made_as c.args.call) = made.ensures.ledger ∙ ap (step l) c.call_of.ensures in
    let left : Lent g.row.R-Truth.Denot g.row.B-Truth.Denot = lent (tables made.new.machine) made.new.cells made.new.bits made.new.rows in
    let cells = c.args.cells.now in
    let bits = c.args.bits.now in
    let rows = c.args.rows.now in
    let tells : Tells judged written l.form l (made_as c.args.call) made.result.answer (front p (lent (tables c.args.machine.now) cells bits rows)) left =
    subst (λ (q : Call × Lent g.row.R-Truth.Denot g.row.B-Truth.Denot). Tells judged written l.form l q.0 made.result.answer q.1 left)
    (λ i. (c.call_of.ensures i, lent (tables c.args.machine.now) (take_lent cells p.cells c.min-cell_count.result c.min-cell_count.ensures i) (take_lent bits p.cells c.min-bit_count.result c.min-bit_count.ensures i) (take_lent rows p.rows c.min-row_count.result c.min-row_count.ensures i)))
    made.ensures.tells in
    record {
      reply = made.result.answer;
      left = left;
      tells = tells;
      leaves = λ i.
          lent (tables made.new.machine)
          (made.new.cells ++ drop_lent cells p.cells c.min-cell_count.result c.min-cell_count.ensures i)
          (made.new.bits ++ drop_lent bits p.cells c.min-bit_count.result c.min-bit_count.ensures i)
          (made.new.rows ++ drop_lent rows p.rows c.min-row_count.result c.min-row_count.ensures i);
      answers = told_after judged written g.R.Truth.AmongThree.three g.B.Truth.AmongThree.three c.args.lacking l (ledger_of made.result.sheet) c.args.call made.result.answer _ left _ ledger tells c.told-answer.ensures;
      before = made.ensures.before;
      after = subst (WhileSealed g.R.Truth.Truth.kind g.B.Truth.Truth.kind) ledger made.ensures.after;
    }

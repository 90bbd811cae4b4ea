use Rattle.std.proofs.Common.{ℕ, ◌<◌, ◌≤◌, List, ◌++◌, length, drop, subst, arith, length-append, length-drop}
use Rattle.std.proofs.lemmas.List.{length-take-le}
use Rattle.sheet.specs.declared.line.Line.{Line}
use Rattle.sheet.specs.Sheets.{sealed_lines}
use Rattle.sheet.specs.Table.{Sheet}
use Rattle.run.specs.Packing.{RowsPacked}
use Rattle.run.proofs.Filling.{front_packed}
use Rattle.run.proofs.Outcome.{written_is}
use Rattle.run.proofs.writing.write_out.Goals as goal

pub returns : goal.returns
returns g c =
    let lines = sealed_lines c.args.sheet.now in
    let k = g.B.Truth.Truth in
    let w = g.B.Recording.word c.args.recording.now in
    let l = c.lines.ensures in
    let e = c.in_ok-extent.ensures in
    let room : c.in_ok-extent.extent.samples ≤ length c.args.rows.now = omega (arith, c.if-rows-extent.false) in
    let packed = front_packed k.kind k.means c.lines.result.now c.judge.new.cells c.args.rows.now c.fill_rows.new.rows c.in_ok-extent.extent.samples
    room c.fill_rows.auto.rows c.fill_rows.ensures in
    written_is k.kind c.is_yes.ensures.two k.means lines (subst Sheet l.are l.sheet) (subst (λ (ls : List Line). 0 < length ls) l.are l.some)
    w c.args.cells.now c.judge.new.cells c.args.rows.now _
    c.in_ok-extent.extent.samples c.in_ok-extent.extent.steady c.in_ok-verdict.verdict e.samples e.steady_is
    (omega (arith, e.samples)) (omega (arith, length-append {A = ℕ}, length-drop {A = ℕ}, length-take-le {A = ℕ}, c.fill_rows.auto.rows)) c.in_ok-verdict.ensures
    (subst (RowsPacked k.kind k.means lines c.judge.new.cells c.args.rows.now (c.fill_rows.new.rows ++ drop c.in_ok-extent.extent.samples c.args.rows.now)) e.samples
    (subst (λ (ls : List Line). RowsPacked k.kind k.means ls c.judge.new.cells c.args.rows.now (c.fill_rows.new.rows ++ drop c.in_ok-extent.extent.samples c.args.rows.now) c.in_ok-extent.extent.samples) l.are packed))

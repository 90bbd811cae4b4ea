use Rattle.std.proofs.Common.{◌<◌, ◌≤◌, length, arith}
use Rattle.sheet.specs.Sheets.{sealed_lines}
use Rattle.sheet.proofs.Front.{length_lines, draft_sheet}
use Rattle.machine.specs.Machines.{tables}
use Rattle.customer.proofs.Checks.{taken, said}
use Rattle.customer.proofs.run_then_check.Goals as goal

pub unwrap-accepting-requires : goal.unwrap-accepting-requires
unwrap-accepting-requires g c =
    let s = c.args.sheet.now in
    let lines = sealed_lines s in
    let some : 0 < length lines = omega (arith, length_lines s.draft, s.some) in
    let most : length lines ≤ 64 = omega (arith, length_lines s.draft, s.draft.room) in
    taken g.B.Truth.Truth.kind g.B.Truth.Truth.means lines (g.B.Recording.word c.args.recording.now) (draft_sheet s.draft) some most
    c.args.cells.now c.write_out.new.cells c.args.rows.now c.write_out.new.rows c.in_ok-written.written c.in_ok-written.ensures
    (tables c.translate.new.machine) c.translate.ensures.filled c.check.result c.check.ensures

pub returns : goal.returns
returns g c =
    let s = c.args.sheet.now in
    let lines = sealed_lines s in
    let k = g.B.Truth.Truth in
    let w = g.B.Recording.word c.args.recording.now in
    let some : 0 < length lines = omega (arith, length_lines s.draft, s.some) in
    let most : length lines ≤ 64 = omega (arith, length_lines s.draft, s.draft.room) in
    said k.kind k.means lines w (draft_sheet s.draft) some most
    c.args.cells.now c.write_out.new.cells c.args.rows.now c.write_out.new.rows c.in_ok-written.written c.in_ok-written.ensures
    (tables c.translate.new.machine) c.translate.ensures.filled c.unwrap-accepting.result (rw c.unwrap-accepting.ensures at c.check.ensures)

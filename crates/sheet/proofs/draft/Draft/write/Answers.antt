use Rattle.std.proofs.Common.{◌≡◌, Some}
use Rattle.sheet.specs.Sheets.{drafted}
use Rattle.sheet.specs.Table.{named_line}
use Rattle.sheet.proofs.Front.{write_operand, write_pushed}
use Rattle.sheet.proofs.draft.Draft.write.Goals as goal

pub returns-then-ne : goal.returns-then-ne
returns-then-ne c =
    let named : named_line c.args.code c.args.left c.args.right ≡ Some c.in_ok-line.line = cc (c.named.ensures, c.in_ok-line.ensures.ok_part) in
    write_operand (drafted c.args.self.now) _ _ _ _ named (cc (c.ne.ensures, c.operands.ensures, c.if-ne.true))

pub returns : goal.returns
returns c =
    let named : named_line c.args.code c.args.left c.args.right ≡ Some c.in_ok-line.line = cc (c.named.ensures, c.in_ok-line.ensures.ok_part) in
    let wrote = write_pushed (drafted c.args.self.now) _ _ _ _ named (cc (c.ne.ensures, c.operands.ensures, c.if-ne.false)) in
    cc

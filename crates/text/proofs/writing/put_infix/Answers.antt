use Rattle.std.proofs.Common.{rules, length}
use Rattle.sheet.specs.declared.line.Line.TheVariants.{Or}
use Rattle.sheet.specs.Sheets.{lines_of}
use Rattle.text.proofs.writing.put_infix.Goals as goal

pub returns-in-Implies-clause-wrote : goal.returns-in-Implies-clause-wrote
returns-in-Implies-clause-wrote c = rw c.in-Implies.is (c.put_two.ensures.wrote (Or (length (lines_of c.args.draft.now)) c.args.right) (λ l p. search rules))

use Rattle.std.proofs.Common.{rules, length}
use Rattle.sheet.specs.declared.line.Line.TheVariants.{Until, WeakUntil, Since, WeakSince}
use Rattle.sheet.specs.Sheets.{lines_of}
use Rattle.text.proofs.writing.put_prefix.Goals as goal

pub returns-in-Finally-clause-wrote : goal.returns-in-Finally-clause-wrote
returns-in-Finally-clause-wrote c = rw c.in-Finally.is (c.put_two.ensures.wrote (Until (length (lines_of c.args.draft.now)) c.args.operand) (λ l p. search rules))

pub returns-in-Globally-clause-wrote : goal.returns-in-Globally-clause-wrote
returns-in-Globally-clause-wrote c = rw c.in-Globally.is (c.put_two-in-Globally.ensures.wrote (WeakUntil c.args.operand (length (lines_of c.args.draft.now))) (λ l p. search rules))

pub returns-in-Once-clause-wrote : goal.returns-in-Once-clause-wrote
returns-in-Once-clause-wrote c = rw c.in-Once.is (c.put_two-in-Once.ensures.wrote (Since (length (lines_of c.args.draft.now)) c.args.operand) (λ l p. search rules))

pub returns-in-Historically-clause-wrote : goal.returns-in-Historically-clause-wrote
returns-in-Historically-clause-wrote c = rw c.in-Historically.is (c.put_two-in-Historically.ensures.wrote (WeakSince c.args.operand (length (lines_of c.args.draft.now))) (λ l p. search rules))

use Rattle.text.proofs.Steps.{pushed_grown}
use Rattle.text.proofs.writing.put.Goals as goal

pub returns-in_err-at-clause-grown : goal.returns-in_err-at-clause-grown
returns-in_err-at-clause-grown c = pushed_grown c.args.draft.now c.push.new.self c.push.result c.args.line c.push.ensures

pub returns-clause-grown : goal.returns-clause-grown
returns-clause-grown c = pushed_grown c.args.draft.now c.push.new.self c.push.result c.args.line c.push.ensures

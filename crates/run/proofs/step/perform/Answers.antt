use Rattle.run.proofs.Keeping.{sheet_law}
use Rattle.run.proofs.step.perform.Goals as goal

pub returns-in-Open-clause-after : goal.returns-in-Open-clause-after
returns-in-Open-clause-after g c = sheet_law _ _ c.is_yes.ensures.two c.on_draft.result.sheet

pub returns-in-Shut-clause-before : goal.returns-in-Shut-clause-before
returns-in-Shut-clause-before g c = sheet_law _ _ c.is_yes.ensures.two c.args.sheet

pub returns-in-Shut-clause-after : goal.returns-in-Shut-clause-after
returns-in-Shut-clause-after g c = sheet_law _ _ c.is_yes.ensures.two c.on_sealed.result.sheet

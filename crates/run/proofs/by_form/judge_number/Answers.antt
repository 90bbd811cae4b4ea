use Rattle.std.proofs.Common.{refl}
use Rattle.run.proofs.Numbered.{on_item, on_none}
use Rattle.run.proofs.by_form.judge_number.Goals as goal

pub returns-in_default : goal.returns-in_default
returns-in_default g c machine bits rows =
    on_none g.R.Recording.word _ _ c.args.judged.now c.args.number c.in_default.ensures.lookup.3 (refl, refl)

pub returns : goal.returns
returns g c machine bits rows =
    let found = c.in-Some.ensures.lookup in
    on_item g.R.Recording.word _ _ c.args.judged.now c.args.number c.in-Some.recording.now found.3.0 found.1
    (c.judge.result, c.into.ensures, c.judge.ensures, refl)

use Rattle.std.proofs.Common.{refl}
use Rattle.run.proofs.Numbered.{on_item, on_none}
use Rattle.run.proofs.by_form.write_number.Goals as goal

pub returns-in_default : goal.returns-in_default
returns-in_default g c machine cells =
    on_none g.B.Recording.word _ _ c.args.written.now c.args.number c.in_default.ensures.lookup.3 (refl, refl)

pub returns : goal.returns
returns g c machine cells =
    let found = c.in-Some.ensures.lookup in
    on_item g.B.Recording.word _ _ c.args.written.now c.args.number c.in-Some.recording.now found.3.0 found.1
    (c.write_out.result, c.into.ensures, c.write_out.ensures, refl)

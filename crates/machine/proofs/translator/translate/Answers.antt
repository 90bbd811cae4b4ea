use Rattle.std.proofs.Common.{ap, ◌∙◌, sym, subst}
use Rattle.machine.specs.Tables.{IsSound}
use Rattle.machine.specs.Translation.{translate, Sound}
use Rattle.machine.proofs.Finishing.{filled_is}
use Rattle.machine.proofs.Wiring.{sound}
use Rattle.machine.proofs.translator.translate.Goals as goal

pub invariant_of-machine-clause-sound : goal.invariant_of-machine-clause-sound
invariant_of-machine-clause-sound c =
    let ls = c.lines.result.now in
    let l = c.lines.ensures in
    let built = rw (← l.are) at c.filled-work.ensures in
    let known = sound ls l.sheet l.some l.few in
    subst IsSound (sym (filled_is ls _ l.some built _ _ c.into_parts-gate_count.ensures.rows _ _ c.into_parts-variable_count.ensures.rows _ _ c.into_parts-pair_count.ensures.rows)) (known.wired, known.bounded)

pub returns : goal.returns
returns c =
    let ls = c.lines.result.now in
    let l = c.lines.ensures in
    let built = rw (← l.are) at c.filled-work.ensures in
    record {
      filled = filled_is ls _ l.some built _ _ c.into_parts-gate_count.ensures.rows _ _ c.into_parts-variable_count.ensures.rows _ _ c.into_parts-pair_count.ensures.rows ∙ ap translate l.are;
      sound = subst Sound l.are (sound ls l.sheet l.some l.few);
    }

use Rattle.std.proofs.Common.{false, subst, sym}
use Rattle.std.proofs.lemmas.List.Elements.{All-from_get_or}
use Rattle.std.specs.List.{All}
use Rattle.machine.specs.declared.gate.Gate.TheVariants.{Const}
use Rattle.machine.specs.Machines.{tables}
use Rattle.machine.specs.Tables.{Names}
use Rattle.checker.proofs.check.check.Goals as goal

pub returns-then-not-has_signals : goal.returns-then-not-has_signals
returns-then-not-has_signals g c named =
    let has = Names (g.R.Recording.word c.args.recording.now).signals in
    let all = c.has_signals.ensures.1 (subst (All has) (sym c.gates.ensures.are) (All-from_get_or has (tables c.args.machine.now).gates (Const false) named)) in cc

use Rattle.std.proofs.Common.{◌^◌}
use Rattle.session.proofs.Narrowing.{same_numbers}
use Rattle.session.proofs.Sizing.{no_masks, tape_sized}
use Rattle.session.proofs.bench.making.tape_of.Goals as goal

pub returns-in_default : goal.returns-in_default
returns-in_default c =
    no_masks _ c.args.sizes.signals c.args.sizes.stem c.args.sizes.cycle c.args.masks.now _ c.in_default.is c.in_ok-masks.ensures

pub returns : goal.returns
returns c =
    tape_sized c.args.sizes.signals c.args.sizes.stem c.args.sizes.cycle _ _ _ c.size.ensures c.size-2.ensures c.size-3.ensures c.new.result
    (same_numbers _ (2 ^ 32) c.args.masks.now _ _ _ c.as_slice.ensures.value c.in-Some.is c.in_ok-masks.ensures)
    c.new.ensures

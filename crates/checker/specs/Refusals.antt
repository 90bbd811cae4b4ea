-- The refusals of the run check, by their numbers among the refused calls.
use Rattle.std.specs.Prelude.{ℕ}
use Rattle.checker.specs.declared.refusal.CheckRefusal.{CheckRefusal}
use Rattle.checker.specs.declared.refusal.CheckRefusal.TheVariants.{NoSignal, BadShape, StrayBit}

abbrev pub number_of : CheckRefusal → ℕ
number_of NoSignal = 5
number_of BadShape = 8
number_of StrayBit = 9

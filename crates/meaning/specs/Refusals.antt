-- The refusals of judging, by their numbers among the refused calls.
use Rattle.std.specs.Prelude.{ℕ}
use Rattle.meaning.specs.declared.refusal.Refusal.{Refusal}
use Rattle.meaning.specs.declared.refusal.Refusal.TheVariants.{NoSignal, TooFewCells}

abbrev pub number_of : Refusal → ℕ
number_of NoSignal = 5
number_of TooFewCells = 6

-- The refusals of a sheet, by their numbers among the refused calls.
use Rattle.std.specs.Prelude.{ℕ}
use Rattle.sheet.specs.declared.refusal.Refusal.{Refusal}
use Rattle.sheet.specs.declared.refusal.Refusal.TheVariants.{Code, Operand, Full, Empty}

abbrev pub number_of : Refusal → ℕ
number_of Code = 1
number_of Operand = 2
number_of Full = 3
number_of Empty = 4

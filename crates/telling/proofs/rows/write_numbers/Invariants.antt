use Rattle.std.proofs.Common.{◌≡◌, ℕ, List, ◌++◌, drop}
use Rattle.std.specs.Fmt.{IsPlainFormatter, HasWritten}
use Rattle.telling.specs.Truths.{numbers_text}
use Rattle.telling.proofs.rows.write_numbers.Given as goal

-- what was written, and with the numbers that are left it is the text
abbrev pub invariant-loop-number : goal.invariant-loop-number
invariant-loop-number g l =
    (bs : List ℕ) × (IsPlainFormatter l.initial.f → HasWritten g.W.Write.write_str_gives l.initial.f bs l.f) × (bs ++ numbers_text (drop l.number-index l.numbers) ≡ numbers_text l.numbers)

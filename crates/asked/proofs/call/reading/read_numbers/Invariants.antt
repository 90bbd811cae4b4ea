use Rattle.std.proofs.Common.{◌≡◌, ℕ, List, ◌++◌, Some, None, Option, vec_items}
use Rattle.lexer.specs.Parts.{parts_left}
use Rattle.asked.specs.Words.{numbers}
use Rattle.asked.proofs.call.reading.read_numbers.Given as goal

-- what was found, before the rest
abbrev pub before : List ℕ → Option (List ℕ) → Option (List ℕ)
before xs None = None
before xs (Some ys) = Some (xs ++ ys)

-- what was found goes before the numbers of the words that are left
abbrev pub invariant-loop-word : goal.invariant-loop-word
invariant-loop-word l = numbers (parts_left l.fn.words) ≡ before (vec_items l.found) (numbers (parts_left l.word-iterator))

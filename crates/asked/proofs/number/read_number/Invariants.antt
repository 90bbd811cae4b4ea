use Rattle.std.proofs.Common.{◌≡◌, ℕ, ◌^◌, min, drop}
use Rattle.asked.specs.Words.{value_on, all_digits}
use Rattle.asked.proofs.number.read_number.Given as goal

-- v is the value of the digits so far
abbrev pub invariant-loop-b : goal.invariant-loop-b
invariant-loop-b l =
    (v : ℕ) × (l.value ≡ min v (2 ^ 64)) × (value_on 0 l.word ≡ value_on v (drop l.b-index l.word)) × (all_digits l.word ≡ all_digits (drop l.b-index l.word))

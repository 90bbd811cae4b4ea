use Rattle.std.proofs.Common.{◌≡◌, ℕ, ◌<◌, ◌≤◌, get_or, take}
use Rattle.bench_file.specs.Lines.{value}
use Rattle.bench_file.proofs.form.numeral.Given as goal

-- the value of the digits so far, which has no more places than they are
abbrev pub invariant-loop-digit : goal.invariant-loop-digit
invariant-loop-digit l =
    (l.value ≡ value (take l.digit-index l.digits))
    × ((k : ℕ) → k < l.digit-index → (48 ≤ get_or l.digits k 0) × (get_or l.digits k 0 ≤ 57))
    × (l.digit-index ≤ 0 → l.value ≤ 0) × (l.digit-index ≤ 1 → l.value ≤ 9) × (l.digit-index ≤ 2 → l.value ≤ 99) × (l.digit-index ≤ 3 → l.value ≤ 999)

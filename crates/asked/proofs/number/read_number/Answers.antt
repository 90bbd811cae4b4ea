use Rattle.std.proofs.Common.{◌≡◌, ◌+◌, ◌-◌, ◌*◌, ◌<◌, length, get_or, true, ◌∙◌, rules, arith}
use Rattle.asked.specs.Words.{is_digit}
use Rattle.asked.proofs.Digits.{no_number, digit_more, value_more, whole_number}
use Rattle.asked.proofs.number.read_number.Goals as goal

pub returns-then-not-is_ascii_digit : goal.returns-then-not-is_ascii_digit
returns-then-not-is_ascii_digit c =
    no_number c.args.word.now c.loop-b.b-index (omega arith) c.loop-b.invariant.3 (search rules)

pub loop-b-preserved : goal.loop-b-preserved
loop-b-preserved c =
    let i = c.loop-b.invariant in
    let w = c.args.word.now in
    let digit : is_digit (get_or w c.loop-b.b-index 0) ≡ true = search rules in (
      i.0 * 10 + (get_or w c.loop-b.b-index 0 - 48),
      omega (arith, c.min-value.ensures, i.1),
      i.2 ∙ value_more w c.loop-b.b-index i.0 (omega arith),
      i.3 ∙ digit_more w c.loop-b.b-index (omega arith) digit,
    )

pub returns : goal.returns
returns c =
    let i = c.loop-b.invariant in
    let some : 0 < length c.args.word.now = search rules in
    whole_number c.args.word.now c.loop-b.b-index i.0 c.loop-b.value some (omega arith) i.1 i.2 i.3

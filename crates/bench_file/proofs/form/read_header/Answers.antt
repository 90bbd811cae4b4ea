use Rattle.lexer.proofs.Pieces.{rest_is}
use Rattle.bench_file.proofs.Numerals.{parted, rest_of_line, header_of, joins_is}
use Rattle.bench_file.proofs.form.read_header.Goals as goal

pub returns : goal.returns
returns c =
    let l = c.args.line.now in
    let after = c.in_ok-after.after.now in
    let rule = c.in_ok-rule.rule.now in
    let p = c.first_part-first.result.bytes.now in
    let q = c.first_part-second.result.bytes.now in
    let e =
    parted l after rule p q (rest_is 32 _ p _ _ c.first_part-first.ensures.parted c.in_ok-after.was)
    (rest_is 32 _ q _ _ c.first_part-second.ensures.parted c.in_ok-rule.was) in
    let h = header_of l rule p q _ _ e c.in_ok-stem.ensures c.in_ok-cycle.ensures in
    let r =
    rest_of_line l after rule p q e (joins_is 32 l p _ _ c.first_part-first.ensures.whole c.in_ok-after.was)
    (joins_is 32 after q _ _ c.first_part-second.ensures.whole c.in_ok-rule.was) in
    (h.0, h.1, h.2, r, c.in_ok-stem.ensures.2, c.in_ok-cycle.ensures.2)

use Rattle.std.proofs.Common.{◌≡◌, refl, sym, ◌∙◌, subst, arith}
use Rattle.text.specs.Rules.{IsPrefix, truth, signal, under, pair}
use Rattle.text.specs.Reading.{wrong, deep_prefix, deep_pair, in_under, in_left}
use Rattle.text.proofs.Parse.{outcome_err, no_token, whole_truth, whole_signal, whole_under, whole_pair, fault_infix, fault_close, fault_right, fault_pair_full, fault_under_full, fault_digit_full, fault_name_full, fault_unknown, fault_no_prefix, was_some, was_none, fault_ends, token_name, token_digit, token_sign, sign_stands, whole_at, faulty_at}
use Rattle.lexer.specs.Names.{Finds, known, line_of}
use Rattle.sheet.specs.Sheets.{lines_of}
use Rattle.lexer.proofs.Naming.{few as few_names}
use Rattle.text.proofs.Steps.{few, grown_none, grown_length, whole_grown, whole_then}
use Rattle.text.proofs.reader.Source.+pair_unit.Goals as goal

pub pair-put_infix-requires-clause-left : goal.pair-put_infix-requires-clause-left
pair-put_infix-requires-clause-left t c =
    let l = c.in_ok-left.ensures.1.line in
    let g = grown_length _ _ (whole_grown _ _ _ _ _ _ _ _ c.in_ok-right.ensures.1) in
    omega (arith, l, g)

pub pair-returns-then-level-ge-DEEPEST : goal.pair-returns-then-level-ge-DEEPEST
pair-returns-then-level-ge-DEEPEST t c = (deep_pair c.requires.start (omega arith), grown_none _)

pub pair-returns-in_err-left : goal.pair-returns-in_err-left
pair-returns-in_err-left t c =
    outcome_err _ _ _ _ _ _ _ _ c.from_residual.ensures.1 (in_left c.requires.start (omega arith) c.in_err-left.ensures.0) c.in_err-left.ensures.1

pub pair-returns-in_err-operator : goal.pair-returns-in_err-operator
pair-returns-in_err-operator t c =
    let l = c.in_ok-left.ensures.1 in
    outcome_err _ _ _ _ _ _ _ _ c.from_residual-in_err-operator.ensures.1
    (fault_infix _ _ _ _ _ _ _ _ _ c.requires.start (omega arith) l c.in_err-operator.ensures) (whole_grown _ _ _ _ _ _ _ _ l)

pub pair-returns-in_err-right : goal.pair-returns-in_err-right
pair-returns-in_err-right t c =
    let l = c.in_ok-left.ensures.1 in
    outcome_err _ _ _ _ _ _ _ _ c.from_residual-in_err-right.ensures.1
    (fault_right _ _ _ _ _ _ _ _ _ _ c.requires.start (omega arith) l c.in_ok-operator.ensures c.in_err-right.ensures.0)
    (whole_then _ _ _ _ _ _ _ _ _ l c.in_err-right.ensures.1)

pub pair-returns-in_err-close_at : goal.pair-returns-in_err-close_at
pair-returns-in_err-close_at t c =
    let l = c.in_ok-left.ensures.1 in
    let r = c.in_ok-right.ensures.1 in
    outcome_err _ _ _ _ _ _ _ _ c.from_residual-in_err-close_at.ensures.1
    (fault_close _ _ _ _ _ _ _ _ _ _ _ _ _ c.requires.start (omega arith) l c.in_ok-operator.ensures r c.in_err-close_at.ensures)
    (whole_then _ _ _ _ _ _ _ _ _ l (whole_grown _ _ _ _ _ _ _ _ r))

pub pair-returns-in_err-line : goal.pair-returns-in_err-line
pair-returns-in_err-line t c =
    let l = c.in_ok-left.ensures.1 in
    let r = c.in_ok-right.ensures.1 in
    outcome_err _ _ _ _ _ _ _ _ c.from_residual-in_err-line.ensures.1
    (fault_pair_full _ _ _ _ _ _ (lines_of c.put_infix.new.draft) _ _ _ _ _ _ _ c.requires.start (omega arith) l c.in_ok-operator.ensures r c.in_ok-close_at.ensures c.in_err-line.ensures.wrote)
    (whole_then _ _ _ _ _ _ _ _ _ l (whole_then _ _ _ _ _ _ _ _ _ r c.in_err-line.ensures.grown))

pub pair-returns : goal.pair-returns
pair-returns t c = (
  pair _ _ _,
  whole_pair _ _ _ _ _ _ _ _ 0 _ _ _ _ _ _ c.requires.start (omega arith) c.in_ok-left.ensures.1 c.in_ok-operator.ensures
      c.in_ok-right.ensures.1 c.in_ok-close_at.ensures c.in_ok-line.ensures.wrote refl,
)

pub unit-returns-in_err-byte_at : goal.unit-returns-in_err-byte_at
unit-returns-in_err-byte_at t c = outcome_err _ _ _ _ _ _ _ _ c.from_residual.ensures.1 (fault_ends _ _ _ _ _ _ c.in_err-byte_at.ensures) (grown_none _)

pub unit-returns-in_default : goal.unit-returns-in_default
unit-returns-in_default t c = (wrong (no_token _ _ c.in_default.ensures c.in_ok-byte_at.ensures.0), grown_none _)

pub unit-returns-in_err-number-in-Name : goal.unit-returns-in_err-number-in-Name
unit-returns-in_err-number-in-Name t c =
    outcome_err _ _ _ _ _ _ _ _ c.from_residual-in_err-number-in-Name.ensures.1
    (fault_unknown _ _ _ _ _ _ _ _ _ _ (token_name _ _ _ _ _ _ c.in-Name.is c.in-Some.ensures) c.find.ensures (was_none _ _ _ _ c.ok_or.ensures.value c.in_err-number-in-Name.was))
    (grown_none _)

pub unit-put-requires : goal.unit-put-requires
unit-put-requires t c =
    let f = subst (Finds (known c.args.self.now.names) c.in-Name.bytes.now) (was_some _ _ _ _ c.ok_or.ensures.value c.in_ok-number-in-Name.was) c.find.ensures in
    omega (arith, f.0, few_names (line_of c.args.self.now.names))

pub unit-pair-requires : goal.unit-pair-requires
unit-pair-requires t c =
    let k = token_sign _ _ _ _ _ c.in-Sign-eq40.is c.in-Some.ensures in
    let e : c.in-Sign-eq40.field-0 ≡ 40 = grind arith in
    (omega arith, ((k.within, sym k.byte ∙ e), c.requires.deep))

pub unit-returns-in_err-prefix-in-Sign : goal.unit-returns-in_err-prefix-in-Sign
unit-returns-in_err-prefix-in-Sign t c =
    outcome_err _ _ _ _ _ _ _ _ c.from_residual-in_err-prefix-in-Sign.ensures.1
    (fault_no_prefix _ _ _ _ _ _ _ _ _ (token_sign _ _ _ _ _ c.in-Sign.is c.in-Some.ensures) (λ e. grind (arith, c.in-Sign.sign-test, c.in-Sign.sign-is, e)) c.from_sign.ensures (was_none _ _ _ _ c.ok_or-in-Sign.ensures.value c.in_err-prefix-in-Sign.was))
    (grown_none _)

pub unit-returns-then-level-ge-DEEPEST : goal.unit-returns-then-level-ge-DEEPEST
unit-returns-then-level-ge-DEEPEST t c =
    let p = subst (IsPrefix c.in-Sign.sign) (was_some _ _ _ _ c.ok_or-in-Sign.ensures.value c.in_ok-prefix-in-Sign.was) c.from_sign.ensures in
    (deep_prefix _ (sign_stands _ _ _ _ _ (token_sign _ _ _ _ _ c.in-Sign.is c.in-Some.ensures) p) (omega arith), grown_none _)

pub unit-unit-requires : goal.unit-unit-requires
unit-unit-requires t c =
    let k = token_sign _ _ _ _ _ c.in-Sign.is c.in-Some.ensures in
    let w = k.within in
    let n = k.next in
    (omega (arith, w, n), (omega (arith, w, n), omega arith))

pub unit-returns-in_err-inner-in-Sign : goal.unit-returns-in_err-inner-in-Sign
unit-returns-in_err-inner-in-Sign t c =
    let k = token_sign _ _ _ _ _ c.in-Sign.is c.in-Some.ensures in
    let p = subst (IsPrefix c.in-Sign.sign) (was_some _ _ _ _ c.ok_or-in-Sign.ensures.value c.in_ok-prefix-in-Sign.was) c.from_sign.ensures in
    outcome_err _ _ _ _ _ _ _ _ c.from_residual-in_err-inner-in-Sign.ensures.1
    (in_under _ (sign_stands _ _ _ _ _ k p) (omega arith) (faulty_at _ _ _ _ _ _ _ k.next c.in_err-inner-in-Sign.ensures.0)) c.in_err-inner-in-Sign.ensures.1

pub unit-returns-in_err-line-in-Sign : goal.unit-returns-in_err-line-in-Sign
unit-returns-in_err-line-in-Sign t c =
    let k = token_sign _ _ _ _ _ c.in-Sign.is c.in-Some.ensures in
    let p = subst (IsPrefix c.in-Sign.sign) (was_some _ _ _ _ c.ok_or-in-Sign.ensures.value c.in_ok-prefix-in-Sign.was) c.from_sign.ensures in
    let w = whole_at _ _ _ _ _ _ _ _ _ k.next c.in_ok-inner-in-Sign.ensures.1 in
    outcome_err _ _ _ _ _ _ _ _ c.from_residual-in_err-line-in-Sign.ensures.1
    (fault_under_full _ _ _ _ _ (lines_of c.put_prefix.new.draft) _ _ _ _ _ (sign_stands _ _ _ _ _ k p) (omega arith) w c.in_err-line-in-Sign.ensures.wrote)
    (whole_then _ _ _ _ _ _ _ _ _ w c.in_err-line-in-Sign.ensures.grown)

pub unit-returns-in_err-line-in-Name : goal.unit-returns-in_err-line-in-Name
unit-returns-in_err-line-in-Name t c =
    let f = subst (Finds (known c.args.self.now.names) c.in-Name.bytes.now) (was_some _ _ _ _ c.ok_or.ensures.value c.in_ok-number-in-Name.was) c.find.ensures in
    outcome_err _ _ _ _ _ _ _ _ c.from_residual-in_err-line-in-Name.ensures.1
    (fault_name_full _ _ _ _ (lines_of c.put.new.draft) _ _ _ _ _ _ (token_name _ _ _ _ _ _ c.in-Name.is c.in-Some.ensures) (f.0, f.1) (few c.args.draft.now) c.in_err-line-in-Name.ensures.wrote)
    c.in_err-line-in-Name.ensures.grown

pub unit-returns-in_err-line-in-Digit : goal.unit-returns-in_err-line-in-Digit
unit-returns-in_err-line-in-Digit t c =
    outcome_err _ _ _ _ _ _ _ _ c.from_residual-in_err-line-in-Digit.ensures.1
    (fault_digit_full _ _ _ _ (lines_of c.put-in-Digit.new.draft) _ _ _ _ (token_digit _ _ _ _ _ c.in-Digit.is c.in-Some.ensures) (few c.args.draft.now) c.in_err-line-in-Digit.ensures.wrote)
    c.in_err-line-in-Digit.ensures.grown

pub unit-returns-in_ok-line-in-Name : goal.unit-returns-in_ok-line-in-Name
unit-returns-in_ok-line-in-Name t c =
    let f = subst (Finds (known c.args.self.now.names) c.in-Name.bytes.now) (was_some _ _ _ _ c.ok_or.ensures.value c.in_ok-number-in-Name.was) c.find.ensures in
    (signal _, whole_signal _ _ _ _ _ _ _ _ _ _ (token_name _ _ _ _ _ _ c.in-Name.is c.in-Some.ensures) f.0 f.1 c.in_ok-line-in-Name.ensures.wrote)

pub unit-returns-in_ok-line-in-Digit : goal.unit-returns-in_ok-line-in-Digit
unit-returns-in_ok-line-in-Digit t c = (truth _, whole_truth _ _ _ _ _ _ _ _ (token_digit _ _ _ _ _ c.in-Digit.is c.in-Some.ensures) c.in_ok-line-in-Digit.ensures.wrote)

pub unit-returns-in_ok-line-in-Sign : goal.unit-returns-in_ok-line-in-Sign
unit-returns-in_ok-line-in-Sign t c =
    let k = token_sign _ _ _ _ _ c.in-Sign.is c.in-Some.ensures in
    let p = subst (IsPrefix c.in-Sign.sign) (was_some _ _ _ _ c.ok_or-in-Sign.ensures.value c.in_ok-prefix-in-Sign.was) c.from_sign.ensures in (
      under _ _,
      whole_under _ _ _ _ _ _ _ 0 _ _ _ _ (sign_stands _ _ _ _ _ k p) (omega arith) (whole_at _ _ _ _ _ _ _ _ _ k.next c.in_ok-inner-in-Sign.ensures.1) c.in_ok-line-in-Sign.ensures.wrote refl,
    )

use Rattle.std.proofs.Common.{ℕ, List, [], get_or, drop, sym, ap, ◌∙◌, subst, arith}
use Rattle.lexer.specs.Names.{Good}
use Rattle.bench_file.specs.Files.{lines, IsRight}
use Rattle.bench_file.specs.Lines.{stem_of, cycle_of, rule_of}
use Rattle.bench_file.proofs.Marks.{parts_some}
use Rattle.bench_file.proofs.Downward.{right_title, right_header, right_names, above_0, above_1, above_2, upto_2, wrong_ended, wrong_title, wrong_header, top_form, top_naming, two_lines, three_lines, one_left, two_left}
use Rattle.bench_file.proofs.file.read_top.Goals as goal

pub returns-in_err-first : goal.returns-in_err-first
returns-in_err-first c =
    let b = c.in_err-first.ensures in
    top_form _ _ _ 0 c.from_residual.ensures.1 b.0 (omega arith) (wrong_ended _ 0 (omega arith) b.1 (above_0 _))

pub returns-then-not-is_title : goal.returns-then-not-is_title
returns-then-not-is_title c =
    (omega arith, wrong_title _ _ _ c.in_ok-first.ensures (λ t. cc (c.if-not-is_title.true, c.is_title.ensures.1 t)))

pub returns-in_err-second : goal.returns-in_err-second
returns-in_err-second c =
    let ls = lines c.args.bytes.now in
    let e = c.in_ok-first.ensures in
    let r0 : IsRight ls 0 = right_title ls _ _ e (parts_some 10 c.in_ok-first.first.rest.now) (c.is_title.ensures.0 c.if-not-is_title.false) in
    let b = c.in_err-second.ensures in
    top_form ls _ _ 1 c.from_residual-in_err-second.ensures.1 b.0 (omega arith) (wrong_ended ls 1 (omega arith) (one_left ls _ c.in_ok-first.first.rest.now e b.1) (above_1 ls r0))

pub returns-in_default : goal.returns-in_default
returns-in_default c =
    let ls = lines c.args.bytes.now in
    let e = c.in_ok-first.ensures in
    let r0 : IsRight ls 0 = right_title ls _ _ e (parts_some 10 c.in_ok-first.first.rest.now) (c.is_title.ensures.0 c.if-not-is_title.false) in
    (omega arith, wrong_header ls _ _ _ (two_lines ls _ _ c.in_ok-first.first.rest.now _ e c.in_ok-second.ensures) r0 c.in_default.ensures)

pub returns-in_err-third : goal.returns-in_err-third
returns-in_err-third c =
    let ls = lines c.args.bytes.now in
    let e = c.in_ok-first.ensures in
    let r0 : IsRight ls 0 = right_title ls _ _ e (parts_some 10 c.in_ok-first.first.rest.now) (c.is_title.ensures.0 c.if-not-is_title.false) in
    let f = two_lines ls _ _ c.in_ok-first.first.rest.now _ e c.in_ok-second.ensures in
    let r1 : IsRight ls 1 = right_header ls _ _ _ f (parts_some 10 c.in_ok-second.second.rest.now) c.in-Some.ensures.0 in
    let b = c.in_err-third.ensures in
    top_form ls _ _ 2 c.from_residual-in_err-third.ensures.1 b.0 (omega arith) (wrong_ended ls 2 (omega arith) (two_left ls _ _ c.in_ok-second.second.rest.now f b.1) (above_2 ls r0 r1))

pub returns-in_err-names : goal.returns-in_err-names
returns-in_err-names c =
    let ls = lines c.args.bytes.now in
    let e = c.in_ok-first.ensures in
    let r0 : IsRight ls 0 = right_title ls _ _ e (parts_some 10 c.in_ok-first.first.rest.now) (c.is_title.ensures.0 c.if-not-is_title.false) in
    let f = two_lines ls _ _ c.in_ok-first.first.rest.now _ e c.in_ok-second.ensures in
    let r1 : IsRight ls 1 = right_header ls _ _ _ f (parts_some 10 c.in_ok-second.second.rest.now) c.in-Some.ensures.0 in
    let g = three_lines ls _ _ _ c.in_ok-second.second.rest.now _ f c.in_ok-third.ensures in
    let r2 : IsRight ls 2 = right_names ls _ _ _ _ g (parts_some 10 c.in_ok-third.third.rest.now) in
    let named = ap (λ (xs : List (List ℕ)). get_or xs 2 []) g in
    top_naming ls _ _ c.from_residual-in_err-names.ensures.1 (upto_2 ls r0 r1 r2) (λ good. c.in_err-names.ensures (subst Good named good))

pub returns : goal.returns
returns c =
    let ls = lines c.args.bytes.now in
    let e = c.in_ok-first.ensures in
    let r0 : IsRight ls 0 = right_title ls _ _ e (parts_some 10 c.in_ok-first.first.rest.now) (c.is_title.ensures.0 c.if-not-is_title.false) in
    let f = two_lines ls _ _ c.in_ok-first.first.rest.now _ e c.in_ok-second.ensures in
    let r1 : IsRight ls 1 = right_header ls _ _ _ f (parts_some 10 c.in_ok-second.second.rest.now) c.in-Some.ensures.0 in
    let g = three_lines ls _ _ _ c.in_ok-second.second.rest.now _ f c.in_ok-third.ensures in
    let r2 : IsRight ls 2 = right_names ls _ _ _ _ g (parts_some 10 c.in_ok-third.third.rest.now) in
    let named = ap (λ (xs : List (List ℕ)). get_or xs 2 []) g in
    let second = sym (ap (λ (xs : List (List ℕ)). get_or xs 1 []) f) in
    let h = c.in-Some.ensures in
    let n = c.in_ok-names.ensures in
    record {
      right = upto_2 ls r0 r1 r2;
      stem = h.1 ∙ ap stem_of second;
      cycle = h.2 ∙ ap cycle_of second;
      small = (h.4, h.5);
      rule = h.3 ∙ ap rule_of second;
      names = n.0 ∙ sym named;
      good = subst Good (sym named) n.1;
      rest = ap (λ (xs : List (List ℕ)). drop 3 xs) g;
    }

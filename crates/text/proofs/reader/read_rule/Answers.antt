use Rattle.std.proofs.Common.{◌≡◌, List, refl, ap, ◌∙◌, subst, arith, rules}
use Rattle.sheet.specs.declared.line.Line.{Line}
use Rattle.sheet.specs.Sheets.{lines_of}
use Rattle.lexer.specs.Names.{line_of}
use Rattle.text.specs.Guards.{Grown}
use Rattle.text.specs.Reading.{too_long, inside, goes_on}
use Rattle.text.proofs.Steps.{whole_grown}
use Rattle.text.proofs.Top.{back, accepted, accepted_at, unambiguous, full_alone, ok_alone, refused, refused_full, faulty_from, whole_from}
use Rattle.text.proofs.reader.read_rule.Goals as goal

pub returns-then-text-gt-LONGEST : goal.returns-then-text-gt-LONGEST
returns-then-text-gt-LONGEST c =
    let w = too_long c.if-text-gt-LONGEST.true in
    record { verdict = (refl, w); only = unambiguous (line_of c.args.names.now) _ _; full = full_alone _ _ _ _ w }

pub returns-in_err-rule : goal.returns-in_err-rule
returns-in_err-rule c =
    let e : lines_of c.new-pending.result.draft.now ≡ lines_of c.args.draft.now = ap lines_of c.new-pending.ensures.holds in
    let g : Grown (lines_of c.args.draft.now) (lines_of c.unit.new.draft) = subst (λ (ls : List Line). Grown ls (lines_of c.unit.new.draft)) e c.in_err-rule.ensures.1 in
    let l : lines_of c.drop-pending.new.self.0 ≡ lines_of c.args.draft.now = c.drop-pending.ensures ∙ back _ _ _ c.new-pending.ensures.kept g in
    let w = inside (omega arith) (faulty_from _ _ _ _ _ e c.in_err-rule.ensures.0) in
    record {
      verdict = refused _ _ _ _ _ _ c.from_residual.ensures.1 (search rules) w;
      only = unambiguous (line_of c.args.names.now) _ _;
      full = refused_full _ _ _ _ _ c.from_residual.ensures.1 w;
    }

pub returns-then-rule-text : goal.returns-then-rule-text
returns-then-rule-text c =
    let e : lines_of c.new-pending.result.draft.now ≡ lines_of c.args.draft.now = ap lines_of c.new-pending.ensures.holds in
    let o = whole_from _ _ _ _ _ _ _ e c.in_ok-rule.ensures.1 in
    let l : lines_of c.drop-pending-then-rule-text.new.self.0 ≡ lines_of c.args.draft.now =
    c.drop-pending-then-rule-text.ensures ∙ back _ _ _ c.new-pending.ensures.kept (whole_grown _ _ _ _ _ _ _ _ o) in
    let w = goes_on _ (omega arith) o.reads c.if-rule-text.true in
    record { verdict = (search rules, w); only = unambiguous (line_of c.args.names.now) _ _; full = full_alone _ _ _ _ w }

pub returns : goal.returns
returns c =
    let e : lines_of c.new-pending.result.draft.now ≡ lines_of c.args.draft.now = ap lines_of c.new-pending.ensures.holds in
    let o = whole_from _ _ _ _ _ _ _ e c.in_ok-rule.ensures.1 in
    let a = accepted _ _ _ _ _ _ (omega arith) c.if-rule-text.false o (whole_grown _ _ _ _ _ _ _ _ o) in
    record { verdict = (_, accepted_at _ _ _ _ _ _ _ (search rules) a); only = unambiguous (line_of c.args.names.now) _ _; full = ok_alone _ }

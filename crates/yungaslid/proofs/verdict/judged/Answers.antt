use Rattle.std.proofs.Common.{refl, subst}
use Rattle.std.proofs.lemmas.Result.{err_from_is_err_and}
use Rattle.sheet.specs.Sheets.{sealed_lines}
use Rattle.yungaslid.specs.Opening.{misnamed, untaped}
use Rattle.yungaslid.specs.Verdicts.{Judged, Unjudged, refused, unjudged, judged}
use Rattle.yungaslid.proofs.Opened.{faulty_at, ruled_at}
use Rattle.yungaslid.proofs.Values.{judged_at}
use Rattle.yungaslid.proofs.verdict.judged.Goals as goal

pub returns-in_err-names : goal.returns-in_err-names
returns-in_err-names c =
    let p = err_from_is_err_and c.from_residual.result c.from_residual.ensures.1 in
    rw (p.1, p.2) (refused _ (misnamed _ c.in_err-names.ensures) refl)

pub returns-in_err-tape : goal.returns-in_err-tape
returns-in_err-tape c =
    let p = err_from_is_err_and c.from_residual-in_err-tape.result c.from_residual-in_err-tape.ensures.1 in
    rw (p.1, p.2)
    (refused _ (untaped _ c.in_ok-names.ensures.1 (λ fits. c.in_err-tape.ensures fits.0 fits.1)) refl)

pub returns-in_err-sheet : goal.returns-in_err-sheet
returns-in_err-sheet c =
    let p = err_from_is_err_and c.from_residual-in_err-sheet.result c.from_residual-in_err-sheet.ensures.1 in
    let made = c.in_ok-tape.ensures in
    rw (p.1, p.2)
    (refused _ (faulty_at _ _ _ c.in_ok-names.names c.in_ok-names.ensures (made.0, made.1) _ c.in_err-sheet.ensures) refl)

pub returns-in_err-verdict : goal.returns-in_err-verdict
returns-in_err-verdict c =
    let p = err_from_is_err_and c.from_residual-in_err-verdict.result c.from_residual-in_err-verdict.ensures.1 in
    let made = c.in_ok-tape.ensures in
    let ls = sealed_lines c.in_ok-sheet.sheet in
    rw (p.1, p.2)
    (unjudged _ ls (made.0, made.1)
    (ruled_at _ _ _ c.in_ok-names.names c.in_ok-names.ensures (made.0, made.1) c.in_ok-sheet.sheet c.in_ok-sheet.ensures)
    (subst (λ w. Unjudged ls w c.args.cells.now c.judge.new.cells c.in_err-verdict.field-0.0) made.2 c.in_err-verdict.ensures))

pub returns : goal.returns
returns c =
    let made = c.in_ok-tape.ensures in
    let ls = sealed_lines c.in_ok-sheet.sheet in
    judged _ ls (made.0, made.1)
    (ruled_at _ _ _ c.in_ok-names.names c.in_ok-names.ensures (made.0, made.1) c.in_ok-sheet.sheet c.in_ok-sheet.ensures)
    (subst (λ w. Judged ls w c.args.cells.now c.judge.new.cells c.canonical.result) made.2
    (judged_at ls _ _ _ c.in_ok-verdict.verdict _ c.canonical.ensures c.in_ok-verdict.ensures))

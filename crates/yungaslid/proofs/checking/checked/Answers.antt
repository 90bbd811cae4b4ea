use Rattle.std.proofs.Common.{◌≡◌, ℕ, Bool, true, false, cond, Ok, Err, refl, subst}
use mathlib.Core.Path.{transport}
use mir.Val.{bool_byte}
use Rattle.std.proofs.lemmas.Result.{err_from_is_err_and}
use Rattle.recording.specs.Kinds.{two}
use Rattle.checker.specs.CheckAnswer as run
use Rattle.sheet.specs.Sheets.{sealed_lines}
use Rattle.yungaslid.specs.Answers.{answered}
use Rattle.yungaslid.specs.Opening.{misnamed, untaped}
use Rattle.yungaslid.specs.Checks.{Checks, refused, unchecked, checked}
use Rattle.yungaslid.proofs.Opened.{faulty_at, ruled_at}
use Rattle.yungaslid.proofs.checking.checked.Goals as goal

pub returns-in_err-names : goal.returns-in_err-names
returns-in_err-names c =
    let p = err_from_is_err_and c.from_residual.result c.from_residual.ensures.1 in
    rw (p.1, p.2) (refused _ (misnamed _ c.in_err-names.ensures))

pub returns-in_err-tape : goal.returns-in_err-tape
returns-in_err-tape c =
    let p = err_from_is_err_and c.from_residual-in_err-tape.result c.from_residual-in_err-tape.ensures.1 in
    rw (p.1, p.2) (refused _ (untaped _ c.in_ok-names.ensures.1 c.in_err-tape.ensures))

pub returns-in_err-sheet : goal.returns-in_err-sheet
returns-in_err-sheet c =
    let p = err_from_is_err_and c.from_residual-in_err-sheet.result c.from_residual-in_err-sheet.ensures.1 in
    let made = c.in_ok-tape.ensures in
    rw (p.1, p.2)
    (refused _ (faulty_at _ _ _ c.in_ok-names.names c.in_ok-names.ensures made.0 _ c.in_err-sheet.ensures))

pub returns-in_err-accepting : goal.returns-in_err-accepting
returns-in_err-accepting c =
    let p = err_from_is_err_and c.from_residual-in_err-accepting.result c.from_residual-in_err-accepting.ensures.1 in
    let made = c.in_ok-tape.ensures in
    rw (p.1, p.2)
    (unchecked _ (sealed_lines c.in_ok-sheet.sheet) made.0
    (ruled_at _ _ _ c.in_ok-names.names c.in_ok-names.ensures made.0 c.in_ok-sheet.sheet c.in_ok-sheet.ensures)
    (transport (λ i. run.Answer two (λ x. x) (c.translate.ensures.filled i) (made.1 i) c.args.rows.now c.args.back (Err c.in_err-accepting.field-0.0)) c.in_err-accepting.ensures))

bit : (b : Bool) → cond {A = ℕ} b 1 0 ≡ bool_byte b
bit true = refl
bit false = refl

pub returns : goal.returns
returns c =
    let made = c.in_ok-tape.ensures in
    let b = c.in_ok-accepting.accepting in
    subst (λ v. Checks c.args.names.now c.args.rule.now c.args.signals c.args.stem c.args.cycle c.args.masks.now c.args.rows.now c.args.back (answered v)) (bit b)
    (checked b (sealed_lines c.in_ok-sheet.sheet) made.0
    (ruled_at _ _ _ c.in_ok-names.names c.in_ok-names.ensures made.0 c.in_ok-sheet.sheet c.in_ok-sheet.ensures)
    (transport (λ i. run.Answer two (λ x. x) (c.translate.ensures.filled i) (made.1 i) c.args.rows.now c.args.back (Ok b)) c.in_ok-accepting.ensures))

use Rattle.std.proofs.Common.{◌≡◌, ◌++◌, refl, ap, ◌∙◌}
use Rattle.std.proofs.lemmas.Fmt.{contents_after_writes}
use Rattle.std.proofs.lemmas.Result.{err_from_is_err_and}
use Rattle.arrayvec.specs.ArrayString.{ArrayString}
use Rattle.sheet.specs.Sheets.{sealed_lines}
use Rattle.machine.specs.Machines.{tables}
use Rattle.tables.specs.Text.{tables_text}
use Rattle.yungaslid.specs.Buffers.{over}
use Rattle.yungaslid.specs.Listings.{refused, unlisted, listed, listing}
use Rattle.yungaslid.specs.Opening.{misnamed}
use Rattle.yungaslid.proofs.Opened.{faulty_at, ruled_at}
use Rattle.yungaslid.proofs.listing.list.Goals as goal

pub returns-in_err-names : goal.returns-in_err-names
returns-in_err-names c =
    let p = err_from_is_err_and c.from_residual.result c.from_residual.ensures.1 in
    rw (p.1, p.2) (refused _ (misnamed _ c.in_err-names.ensures) refl)

pub returns-in_err-sheet : goal.returns-in_err-sheet
returns-in_err-sheet c =
    let p = err_from_is_err_and c.from_residual-in_err-sheet.result c.from_residual-in_err-sheet.ensures.1 in
    rw (p.1, p.2)
    (refused _ (faulty_at _ _ _ c.in_ok-names.names c.in_ok-names.ensures tt _ c.in_err-sheet.ensures) refl)

pub returns-in_err-write : goal.returns-in_err-write
returns-in_err-write c =
    let p = err_from_is_err_and c.from_residual-in_err-write.result c.from_residual-in_err-write.ensures.1 in
    rw (p.1, p.2)
    (unlisted _ (ruled_at _ _ _ c.in_ok-names.names c.in_ok-names.ensures tt c.in_ok-sheet.sheet c.in_ok-sheet.ensures) refl)

pub returns : goal.returns
returns c =
    let text : c.as_bytes-text.result.now ≡ listing (sealed_lines c.in_ok-sheet.sheet) =
    c.as_bytes-text.ensures.value ∙ c.as_str.ensures.value
    ∙ contents_after_writes _ (λ (s : ArrayString). s.bytes) (λ w l v t. t) c.new-page.result _ c.write.new.self c.in_ok-write.ensures.writes
    ∙ ap (λ l. l ++ tables_text (tables c.translate.new.machine)) c.new-page.ensures ∙ ap tables_text c.translate.ensures.filled in
    rw text
    (listed _ (ruled_at _ _ _ c.in_ok-names.names c.in_ok-names.ensures tt c.in_ok-sheet.sheet c.in_ok-sheet.ensures)
    (c.put.ensures ∙ ap (λ l. over l c.args.out.now) text))

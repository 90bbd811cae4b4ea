use Rattle.std.proofs.Common.{◌<◌, length, arith}
use Rattle.recording.specs.Kinds.{two}
use Rattle.recording.specs.Made.{gapped_word, tape_word}
use Rattle.sheet.specs.Sheets.{sealed_lines}
use Rattle.sheet.proofs.Front.{length_lines, draft_sheet}
use Rattle.customer.proofs.Likes.{settles}
use Rattle.customer.proofs.gapped_then_full.Goals as goal

pub returns : goal.returns
returns c =
    let sheet = c.args.sheet.now in
    let some : 0 < length (sealed_lines sheet) = omega (arith, length_lines sheet.draft, sheet.some) in
    settles two (λ v. v) (sealed_lines sheet) some (c.filling.ensures (sealed_lines sheet) (draft_sheet sheet.draft) some)
    (gapped_word c.args.gapped.now) (tape_word c.args.full.now) _ _ _ _ c.in_ok-verdict.verdict c.in_ok-written.written.verdict
    c.in_ok-verdict.ensures c.in_ok-written.ensures.filled

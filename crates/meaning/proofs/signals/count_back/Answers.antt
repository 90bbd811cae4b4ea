use Rattle.std.proofs.Common.{rules, ◌≡◌, ◌∙◌, eqb}
use Rattle.std.specs.List.{count_by}
use Rattle.sheet.specs.Table.{past}
use Rattle.meaning.proofs.Counting.{count_is}
use Rattle.meaning.proofs.signals.count_back.Goals as goal

pub returns : goal.returns
returns c =
    let counted : c.count.result ≡ count_by (λ x. eqb (past x) 1) c.args.lines.now = search rules in
    counted ∙ count_is c.args.lines.now

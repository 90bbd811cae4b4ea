use Rattle.std.proofs.Common.{take, ap, ◌∙◌}
use Rattle.std.proofs.Output.{has_written_of_eq}
use Rattle.session.proofs.Lending.{take_lent}
use Rattle.telling.specs.Truths.{numbers_text}
use Rattle.telling.proofs.rows.RunRowsDisplay.fmt.Goals as goal

pub returns-clause-writes : goal.returns-clause-writes
returns-clause-writes g c p e =
    let count = c.args.self.now.count in
    has_written_of_eq _ _ _ _ _
    (ap numbers_text (take_lent c.as_slice-rows.result.now count c.min-count.result c.min-count.ensures ∙ ap (take count) c.as_slice-rows.ensures.value))
    (c.write_numbers.ensures p e)

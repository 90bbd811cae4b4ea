use Rattle.std.proofs.Common.{◌≡◌, suc, ◌+◌, ◌-◌, [], ◌∷◌, ◌++◌, take, drop, is_ok, ap, ◌∙◌, arith}
use Rattle.std.proofs.Output.{has_written_append, has_written_of_eq}
use Rattle.telling.specs.Truths.{row_text}
use Rattle.session.proofs.Lending.{take_lent, drop_lent}
use Rattle.telling.proofs.Spelling.{sample_more, samples_done}
use Rattle.telling.proofs.rows.write_rows.Goals as goal

pub loop-t-preserved : goal.loop-t-preserved
loop-t-preserved g c =
    let iv = c.loop-t.invariant in
    let three = g.T.AmongThree.three in
    let xs = c.loop-t.rest.now in
    let lines = c.args.lines in
    let width = c.min-width.result in
    let row = c.split_at.result.0.now in
    let more = c.split_at.result.1.now in
    let left : c.args.samples - c.loop-t._t ≡ suc (c.args.samples - (c.loop-t._t + 1)) = omega arith in
    let is : row ≡ take lines xs = c.split_at.ensures.front ∙ take_lent xs lines width c.min-width.ensures in
    let behind : more ≡ drop lines xs = c.split_at.ensures.back ∙ drop_lent xs lines width c.min-width.ensures in (
      iv.0 ++ (row_text three row ++ (10 ∷ [])),
      (λ p.
          let one = iv.1 p in
          let two = c.write_row.ensures one.plain (ap is_ok c.in_ok-write_row.was) in
          let next = c.writeln.ensures.writes two.plain (ap is_ok c.in_ok-writeln.was) in
          has_written_append _ _ _ _ _ _ one (has_written_append _ _ _ _ _ _ two next)),
      sample_more three lines _ _ xs row more iv.0 _ is behind left iv.2,
    )

pub returns : goal.returns
returns g c p e = has_written_of_eq _ _ _ _ _ (samples_done g.T.AmongThree.three c.args.lines _ c.loop-t.rest.now _ _ (omega arith) c.loop-t.invariant.2) (c.loop-t.invariant.1 p)

use Rattle.std.proofs.Common.{◌∷◌, ◌++◌, is_ok, sym, ap, arith}
use Rattle.std.proofs.Output.{has_written_append, has_written_of_eq}
use Rattle.recording.specs.Printed.{truth_text}
use Rattle.telling.proofs.Spelling.{each_more, each_done}
use Rattle.telling.proofs.rows.write_more.Goals as goal

pub loop-value-preserved : goal.loop-value-preserved
loop-value-preserved g c =
    let iv = c.loop-value.invariant in
    let three = g.T.AmongThree.three in
    let x = c.value-item.result in (
      iv.0 ++ (32 ∷ truth_text (three x)),
      (λ p.
          let one = iv.1 p in
          let two = c.write.ensures.writes one.plain (ap is_ok c.in_ok-write.was) in
          has_written_append _ _ _ _ _ _ one (has_written_of_eq _ _ _ _ _ (ap (λ v. 32 ∷ truth_text v) c.as_ternary.ensures) two)),
      each_more (λ v. 32 ∷ truth_text (three v)) c.args.values.now c.loop-value.value-index x x iv.0 _ (omega arith) (sym c.value-item.is) iv.2,
    )

pub returns : goal.returns
returns g c p e = has_written_of_eq _ _ _ _ _ (each_done (λ v. 32 ∷ truth_text (g.T.AmongThree.three v)) c.args.values.now c.loop-value.value-index _ _ (omega arith) c.loop-value.invariant.2) (c.loop-value.invariant.1 p)

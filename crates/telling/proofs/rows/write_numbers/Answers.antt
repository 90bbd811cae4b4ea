use Rattle.std.proofs.Common.{[], ◌∷◌, ◌++◌, get_or, is_ok, decimal, refl, ap, arith}
use Rattle.std.proofs.Output.{has_written_append, has_written_of_eq}
use Rattle.telling.proofs.Spelling.{each_more, each_done}
use Rattle.telling.proofs.rows.write_numbers.Goals as goal

pub loop-number-preserved : goal.loop-number-preserved
loop-number-preserved g c =
    let iv = c.loop-number.invariant in
    let n = get_or c.args.numbers.now c.loop-number.number-index 0 in (
      iv.0 ++ (decimal n ++ (10 ∷ [])),
      (λ p.
          let one = iv.1 p in
          has_written_append _ _ _ _ _ _ one (c.writeln.ensures.writes one.plain (ap is_ok c.in_ok-writeln.was))),
      each_more (λ k. decimal k ++ (10 ∷ [])) c.args.numbers.now c.loop-number.number-index n 0 iv.0 _ (omega arith) refl iv.2,
    )

pub returns : goal.returns
returns g c p e = has_written_of_eq _ _ _ _ _ (each_done (λ k. decimal k ++ (10 ∷ [])) c.args.numbers.now c.loop-number.number-index _ _ (omega arith) c.loop-number.invariant.2) (c.loop-number.invariant.1 p)

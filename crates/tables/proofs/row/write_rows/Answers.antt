use Rattle.std.proofs.Common.{[], ◌∷◌, ◌++◌, is_ok, sym, ap, arith}
use Rattle.std.proofs.Output.{has_written_append}
use Rattle.tables.proofs.Rows.{rows_more}
use Rattle.tables.proofs.row.write_rows.Goals as goal

pub loop-number-preserved : goal.loop-number-preserved
loop-number-preserved g c =
    let iv = c.loop-number.invariant in
    let row = g.T.Row.text c.loop-number.number c.index-rows-number.result in (
      iv.0 ++ (row ++ (10 ∷ [])),
      (λ p.
          let one = iv.1 p in
          let two = c.write_row.ensures one.plain (ap is_ok c.in_ok-write_row.was) in
          let three = c.writeln.ensures.writes two.plain (ap is_ok c.in_ok-writeln.was) in
          has_written_append _ _ _ _ _ _ one (has_written_append _ _ _ _ _ _ two three)),
      rows_more g.T.Row.text c.args.rows.now c.loop-number.number c.index-rows-number.result iv.0 _ (omega arith) (sym c.index-rows-number.is) iv.2,
    )

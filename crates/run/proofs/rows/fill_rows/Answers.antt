use Rattle.std.proofs.Common.{◌+◌, ◌*◌, ◌≤◌, length, mul-le-mul_right, mul_comm, add-mul, one-mul, arith}
use Rattle.run.proofs.Filling.{rows_more}
use Rattle.run.proofs.rows.fill_rows.Goals as goal

pub row_at-requires : goal.row_at-requires
row_at-requires g c =
    let l = length c.args.lines.now in
    let n = length c.args.rows.now in
    let up : (c.loop-t.t + 1) * l ≤ n * l = mul-le-mul_right l (omega (arith, c.loop-t.auto.rows)) in
    record {
      few = c.requires.few;
      signed = c.requires.signed;
      room = omega (arith, c.requires.cells, add-mul c.loop-t.t 1 l, one-mul l, mul_comm l n);
    }

pub loop-t-preserved : goal.loop-t-preserved
loop-t-preserved g c =
    rows_more g.T.Truth.kind g.T.Truth.means c.args.lines.now c.args.cells.now c.args.rows.now c.loop-t.rows c.loop-t.t c.row_at.result
    (omega (arith, c.loop-t.auto.rows)) c.loop-t.invariant c.row_at.ensures

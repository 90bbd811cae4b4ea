use Rattle.std.proofs.Common.{◌-◌, arith}
use Rattle.meaning.proofs.Copies.{no_lines, line_more, lines_all}
use Rattle.meaning.proofs.repeating.repeat_sample.Goals as goal

pub loop-a-init : goal.loop-a-init
loop-a-init g c = no_lines

pub read-value-requires : goal.read-value-requires
read-value-requires g c = omega (arith, c.requires.room (c.args.t - c.args.grid.cycle) c.loop-a.a (omega arith) (omega arith))

pub put-requires : goal.put-requires
put-requires g c = omega (arith, c.requires.room c.args.t c.loop-a.a (omega arith) (omega arith))

pub loop-a-preserved : goal.loop-a-preserved
loop-a-preserved g c =
    line_more (omega arith) (omega arith) (omega arith) (omega (arith, c.requires.room c.args.t c.loop-a.a (omega arith) (omega arith)))
    c.loop-a.invariant c.read-value.ensures c.put.ensures

pub returns : goal.returns
returns g c = lines_all c.loop-a.auto.a-end c.loop-a-test.false c.loop-a.invariant

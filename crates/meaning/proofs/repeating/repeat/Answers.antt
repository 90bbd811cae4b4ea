use Rattle.std.proofs.Common.{arith}
use Rattle.meaning.proofs.Copies.{no_samples, sample_more, repeated_all}
use Rattle.meaning.proofs.repeating.repeat.Goals as goal

pub loop-t-init : goal.loop-t-init
loop-t-init g c = no_samples

pub repeat_sample-requires : goal.repeat_sample-requires
repeat_sample-requires g c =
    record {
      room = λ t k ht hk. omega (arith, c.requires.room t k (omega arith) hk);
      few = c.requires.lines;
      turn = omega arith;
    }

pub loop-t-preserved : goal.loop-t-preserved
loop-t-preserved g c =
    sample_more c.requires.lines (omega arith) (omega arith) (omega arith) (omega arith) c.loop-t.invariant c.repeat_sample.ensures

pub returns : goal.returns
returns g c = repeated_all (omega arith) (omega arith) c.loop-t.invariant

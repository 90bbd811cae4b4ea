use Rattle.std.proofs.Common.{arith}
use Rattle.recording.specs.Wheel.{Wheels}
use Rattle.recording.proofs.Words.{same_wheel}
use Rattle.recording.proofs.wheel.Wheel.new.Goals as goal

pub returns : goal.returns
returns c =
    let fits : Wheels c.args.teeth c.args.gap c.args.start = (omega arith, omega arith, omega arith, omega arith, omega arith) in
    (fits, same_wheel c.args.teeth c.args.gap c.args.start _ _)

use Rattle.std.proofs.Common.{◌+◌, take}
use mathlib.Core.Path.{transport}
use Rattle.recording.specs.Made.{GappedMade}
use Rattle.bench_file.proofs.report.tape_of.Goals as goal

pub returns : goal.returns
returns c =
    let f = c.args.file.now in
    let n = f.stem + f.cycle in
    transport (λ i. GappedMade (c.count.ensures i) f.stem f.cycle (take n f.masks) (take n f.lost) c.new.result) c.new.ensures

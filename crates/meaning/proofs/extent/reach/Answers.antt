use Rattle.std.proofs.Common.{◌*◌, ap₂, arith}
use Rattle.meaning.proofs.Rows.{horizon_most}
use Rattle.meaning.proofs.extent.reach.Goals as goal

pub overflow_mul-steady : goal.overflow_mul-steady
overflow_mul-steady g c =
    let most = horizon_most c.args.lines.now (g.R.Recording.word c.args.recording.now) c.requires.sheet c.requires.some c.requires.few in
    omega (arith, most, ap₂ ◌*◌ c.count_back.ensures c.cycle-cycle.ensures)

pub overflow_add-steady : goal.overflow_add-steady
overflow_add-steady g c =
    let most = horizon_most c.args.lines.now (g.R.Recording.word c.args.recording.now) c.requires.sheet c.requires.some c.requires.few in
    omega (arith, most, c.stem.ensures, ap₂ ◌*◌ c.count_back.ensures c.cycle-cycle.ensures)

pub overflow_add-result : goal.overflow_add-result
overflow_add-result g c =
    let most = horizon_most c.args.lines.now (g.R.Recording.word c.args.recording.now) c.requires.sheet c.requires.some c.requires.few in
    omega (arith, most, c.stem.ensures, c.cycle-cycle.ensures, ap₂ ◌*◌ c.count_back.ensures c.cycle-cycle.ensures)

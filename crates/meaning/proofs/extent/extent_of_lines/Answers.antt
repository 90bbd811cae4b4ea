use Rattle.std.proofs.Common.{◌*◌, ◌≤◌, length, subst, arith}
use Rattle.std.proofs.lemmas.List.Elements.{All-from_get_or}
use Rattle.std.proofs.lemmas.Nat.{mul-le}
use Rattle.sheet.specs.Table.{blank, Named}
use Rattle.meaning.proofs.Rows.{horizon_most}
use Rattle.meaning.proofs.extent.extent_of_lines.Goals as goal

pub returns-then-not-has_signals : goal.returns-then-not-has_signals
returns-then-not-has_signals g c has =
    let w = g.R.Recording.word c.args.recording.now in
    let all = c.has_signals.ensures.1 (All-from_get_or (Named w.signals) c.args.lines.now blank has) in
    cc

pub overflow_mul-lines : goal.overflow_mul-lines
overflow_mul-lines g c =
    let w = g.R.Recording.word c.args.recording.now in
    let lines = c.args.lines.now in
    let most = horizon_most lines w c.requires.sheet c.requires.some c.requires.few in
    let samples : c.reach-extent.result.samples ≤ 4352 = omega (arith, most, c.reach-extent.ensures.samples) in
    omega (arith, mul-le (length lines) c.reach-extent.result.samples 64 4352 c.requires.few samples)

pub returns : goal.returns
returns g c =
    let w = g.R.Recording.word c.args.recording.now in
    let lines = c.args.lines.now in
    let most = horizon_most lines w c.requires.sheet c.requires.some c.requires.few in
    let samples = c.reach-extent.ensures.samples in
    record {
      has_signals = λ k below. c.has_signals.ensures.0 c.if-not-has_signals.false k blank below;
      room = subst (λ m. length lines * m ≤ c.args.cells) samples c.if-cells-lines.false;
      samples = samples;
      steady_is = c.reach-extent.ensures.steady;
      few = omega (arith, samples, most);
    }

use Rattle.std.proofs.Common.{◌≡◌, ℕ, ◌+◌, ◌<◌, true, length, sym, refl, ap, ◌∙◌, subst, arith, length-set}
use Rattle.recording.specs.Tape.{bit}
use Rattle.recording.specs.Word.{meant}
use Rattle.laws.specs.Runs.{row_bits}
use Rattle.machine.specs.Machines.{tables}
use Rattle.machine.specs.Tables.{GatesFit, gate_at, gate_fits}
use Rattle.checker.specs.Moments.{listed}
use Rattle.checker.proofs.Evaluating.{reads_moves, reads_set}
use Rattle.checker.proofs.evaluation.moment_of.Goals as goal

pub loop-k-preserved : goal.loop-k-preserved
loop-k-preserved g c =
    let m = tables c.args.machine.now in
    let gates = c.gates-gate-items.result.now in
    let read = c.gates-gate-items.ensures in
    let k = c.loop-k.k in
    let values = c.loop-k.values in
    let word = meant g.R.Truth.Truth.means (g.R.Recording.word c.args.recording.now) in
    let K = g.R.Truth.Truth.kind in
    let run = row_bits c.args.rows.now in
    let b = c.gate_value.result in
    let fits : (j : ℕ) → j < k + 1 → gate_fits j (length m.variables) (gate_at gates j) ≡ true =
    λ j h. subst (λ gs. GatesFit (length gs) (length m.variables) gs) (sym read.are) read.sound.0.gates j (omega arith) in (
      length-set values k b ∙ c.loop-k.invariant.0,
      reads_set K word run (gate_at gates) (length m.variables) k c.args.i values b
          (omega (arith, c.loop-k.invariant.0, ap length read.are, read.sound.1.gates))
          fits
          c.loop-k.invariant.1
          (reads_moves K word (λ j _. bit _ j) run (gate_at gates k) k (length m.variables) c.args.i (fits k (omega arith)) (λ j. refl) (listed values) (listed values) (λ a h. refl) b c.gate_value.ensures),
    )

use Rattle.std.proofs.Common.{◌≡◌, ℕ, ◌+◌, arith}
use native.Mathlib.Bridge.{le_prop}
use Rattle.recording.specs.Word.{Sizes}
use Rattle.foreign.specs.Waves.{wave}
use Rattle.foreign.proofs.wave.Wave.new.Goals as goal

same_wave : {V : Type 0} (high low : V) (on off : ℕ) (a b : Sizes 1 0 (on + off)) → wave high low on off a ≡ wave high low on off b
same_wave high low on off a b =
    λ i. wave high low on off (le_prop a.0 b.0 i, le_prop a.1 b.1 i, le_prop a.2 b.2 i, le_prop a.3 b.3 i, le_prop a.4 b.4 i)

pub returns : goal.returns
returns g c =
    let sizes : Sizes 1 0 (c.args.on + c.args.off) = (omega arith, omega arith, omega arith, omega arith, omega arith) in
    (sizes, same_wave c.args.high c.args.low c.args.on c.args.off _ sizes)

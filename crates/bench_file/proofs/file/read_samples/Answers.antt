use Rattle.std.proofs.Common.{◌≡◌, ℕ, drop, sym, refl, ap, ◌∙◌, arith, below_more}
use Rattle.bench_file.specs.Files.{lines, line}
use Rattle.bench_file.specs.Lines.{mask_of, lost_of}
use Rattle.bench_file.proofs.Downward.{sample_there, sample_missing, sample_bad, set_more, samples_form}
use Rattle.bench_file.proofs.file.read_samples.Goals as goal

pub returns-in_err-taken : goal.returns-in_err-taken
returns-in_err-taken c =
    let b = c.in_err-taken.ensures in
    samples_form _ _ _ c.loop-t.t _ _ _ _ c.from_residual.ensures.1 b.0 (sample_missing _ _ _ _ c.loop-t.rest.now c.loop-t.invariant.3 b.1 c.loop-t-test.true c.loop-t.invariant.0)

pub returns-in_default : goal.returns-in_default
returns-in_default c =
    (c.loop-t.t, (refl, sample_bad _ _ _ _ _ c.in_ok-taken.taken.rest.now c.loop-t.rest.now c.loop-t.invariant.3 c.in_ok-taken.ensures c.in_default.ensures c.loop-t-test.true c.loop-t.invariant.0))

pub loop-t-init : goal.loop-t-init
loop-t-init c = ((λ j h. absurd (omega (arith, h))), (λ j h. absurd (omega (arith, h))), (λ j h. absurd (omega (arith, h))), refl)

pub loop-t-preserved : goal.loop-t-preserved
loop-t-preserved c =
    let ls = lines c.args.bytes.now in
    let s = c.in-Some.ensures in
    let n = sample_there ls c.args.signals c.loop-t.t c.in_ok-taken.taken.line.now c.in_ok-taken.taken.rest.now c.loop-t.rest.now c.loop-t.invariant.3 c.in_ok-taken.ensures s.0 in (
      below_more _ _ c.loop-t.invariant.0 n.0,
      set_more c.loop-t.masks (λ j. mask_of (line ls j)) c.loop-t.t _ (omega (arith, c.requires.few, c.loop-t.auto.masks, c.loop-t-test.true)) c.loop-t.invariant.1 (s.1 ∙ ap mask_of (sym n.1)),
      set_more c.loop-t.lost (λ j. lost_of (line ls j)) c.loop-t.t _ (omega (arith, c.requires.few, c.loop-t.auto.lost, c.loop-t-test.true)) c.loop-t.invariant.2 (s.2 ∙ ap lost_of (sym n.1)),
      n.2,
    )

pub returns : goal.returns
returns c =
    let ls = lines c.args.bytes.now in
    let n : c.args.count ≡ c.loop-t.t = omega arith in
    record {
      all = λ j lt. c.loop-t.invariant.0 j (omega arith);
      masks_are = λ j lt. c.loop-t.invariant.1 j (omega arith);
      lost_are = λ j lt. c.loop-t.invariant.2 j (omega arith);
      after = ap (λ (k : ℕ). drop k ls) n ∙ c.loop-t.invariant.3;
    }

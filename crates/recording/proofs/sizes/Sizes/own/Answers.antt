use Rattle.std.proofs.Common.{refl, arith}
use Rattle.recording.proofs.Bits.{within_all}
use Rattle.recording.proofs.sizes.Sizes.own.Goals.{then-masks-self-via-then-masks-self, then-masks-self-via-else-masks-self+then-not-bits_fit}
use Rattle.recording.proofs.sizes.Sizes.own.Goals as goal

pub returns-then-masks-self-clause-fits : goal.returns-then-masks-self-clause-fits
returns-then-masks-self-clause-fits c = (
  (λ e. cc),
  λ fits. elim c.then-masks-self.branch [
    | then-masks-self-via-then-masks-self w ↦ absurd (omega (arith, fits.whole))
    | then-masks-self-via-else-masks-self+then-not-bits_fit w ↦
        let held = w.bits_fit.ensures.1 ((within_all c.args.self.signals c.args.masks.now).1 fits.within) in
        cc (held, w.if-not-bits_fit.true)
  ],
)

pub returns-clause-fits : goal.returns-clause-fits
returns-clause-fits c = (
  (λ _. record {
    sizes = c.args.self.in_range;
    whole = c.if-masks-self.false;
    within = (within_all c.args.self.signals c.args.masks.now).0 (c.bits_fit.ensures.0 c.if-not-bits_fit.false);
  }),
  λ _. refl,
)

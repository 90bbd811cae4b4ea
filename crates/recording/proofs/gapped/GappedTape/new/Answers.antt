use Rattle.std.proofs.Common.{refl}
use Rattle.recording.proofs.Words.{made_gapped}
use Rattle.recording.proofs.gapped.GappedTape.new.Goals as goal

pub returns : goal.returns
returns c =
    made_gapped c.in_ok-sizes.sizes _ _ _ _ _ _ _ c.in_ok-sizes.ensures.are (c.in_ok-own.ensures.fits.0 refl) c.in_ok-own.ensures.copied (c.in_ok-own-2.ensures.fits.0 refl) c.in_ok-own-2.ensures.copied

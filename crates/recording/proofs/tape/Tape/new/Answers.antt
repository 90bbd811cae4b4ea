use Rattle.std.proofs.Common.{refl}
use Rattle.recording.proofs.Words.{made_tape}
use Rattle.recording.proofs.tape.Tape.new.Goals as goal

pub returns : goal.returns
returns c =
    made_tape c.in_ok-sizes.sizes _ _ _ _ _ c.in_ok-sizes.ensures.are (c.in_ok-own.ensures.fits.0 refl) c.in_ok-own.ensures.copied

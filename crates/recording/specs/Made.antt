-- What the makers answer: a recording of the word that their arguments describe, or a refusal exactly where these do
-- not fit.
use Rattle.std.specs.Prelude.{◌≡◌, ℕ, ◌+◌, Bool, List, take, Ok, Err, Result}
use Rattle.recording.specs.Gapped.{gapped}
use Rattle.recording.specs.Tape.{Fits, tape}
use Rattle.recording.specs.Wheel.{Wheels, wheel, wheel_sizes}
use Rattle.recording.specs.Word.{Word}
use Rattle.recording.specs.declared.gapped.GappedTape.{GappedTape}
use Rattle.recording.specs.declared.refusal.TapeRefusal.{TapeRefusal}
use Rattle.recording.specs.declared.refusal.WheelRefusal.{WheelRefusal}
use Rattle.recording.specs.declared.sizes.Sizes.{Sizes}
use Rattle.recording.specs.declared.tape.Tape.{Tape}
use Rattle.recording.specs.declared.truth.Ternary.{Ternary}
use Rattle.recording.specs.declared.wheel.Wheel.{Wheel}

-- the sizes of a tape
abbrev pub AreSizes : (signals stem cycle : ℕ) → Sizes → Type 0
AreSizes signals stem cycle s = (s.signals ≡ signals) × (s.stem ≡ stem) × (s.cycle ≡ cycle)

-- the words that the three recordings mean; an array's masks from stem + cycle on have no meaning
abbrev pub tape_word : Tape → Word Bool
tape_word t =
    tape t.sizes.signals t.sizes.stem t.sizes.cycle (take (t.sizes.stem + t.sizes.cycle) t.masks) t.sizes.in_range

abbrev pub gapped_word : GappedTape → Word Ternary
gapped_word t =
    gapped t.sizes.signals t.sizes.stem t.sizes.cycle (take (t.sizes.stem + t.sizes.cycle) t.masks) (take (t.sizes.stem + t.sizes.cycle) t.lost) t.sizes.in_range

abbrev pub wheel_word : Wheel → Word Bool
wheel_word w = wheel w.teeth w.gap w.start (wheel_sizes w.fits)

abbrev pub TapeMade : (signals stem cycle : ℕ) → List ℕ → Result Tape TapeRefusal → Type 0
TapeMade signals stem cycle masks (Ok t) =
    (fits : Fits signals stem cycle masks) × (tape_word t ≡ tape signals stem cycle masks fits.sizes)
TapeMade signals stem cycle masks (Err e) = Fits signals stem cycle masks → ⊥

abbrev pub GappedMade : (signals stem cycle : ℕ) → List ℕ → List ℕ → Result GappedTape TapeRefusal → Type 0
GappedMade signals stem cycle masks lost (Ok t) =
    (fits : Fits signals stem cycle masks) × Fits signals stem cycle lost × (gapped_word t ≡ gapped signals stem cycle masks lost fits.sizes)
GappedMade signals stem cycle masks lost (Err e) = Fits signals stem cycle masks → Fits signals stem cycle lost → ⊥

abbrev pub WheelMade : (teeth gap start : ℕ) → Result Wheel WheelRefusal → Type 0
WheelMade teeth gap start (Ok w) = (fits : Wheels teeth gap start) × (wheel_word w ≡ wheel teeth gap start (wheel_sizes fits))
WheelMade teeth gap start (Err e) = Wheels teeth gap start → ⊥

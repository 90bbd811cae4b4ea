-- The refusals of the recordings' makers, by their numbers among the refused calls.
use Rattle.std.specs.Prelude.{ℕ}
use Rattle.recording.specs.declared.refusal.TapeRefusal.{TapeRefusal}
use Rattle.recording.specs.declared.refusal.TapeRefusal.TheVariants.{BadTape}
use Rattle.recording.specs.declared.refusal.WheelRefusal.{WheelRefusal}
use Rattle.recording.specs.declared.refusal.WheelRefusal.TheVariants.{BadWheel}

abbrev pub tape_number : TapeRefusal → ℕ
tape_number BadTape = 10

abbrev pub wheel_number : WheelRefusal → ℕ
wheel_number BadWheel = 11

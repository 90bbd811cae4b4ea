-- What each call on a bench answers, and what it leaves of the bench.
use Rattle.std.specs.Prelude.{◌≡◌, vec_items, Result}
use Rattle.recording.specs.Made.{TapeMade, GappedMade, WheelMade}
use Rattle.recording.specs.declared.gapped.GappedTape.{GappedTape}
use Rattle.recording.specs.declared.refusal.TapeRefusal.{TapeRefusal}
use Rattle.recording.specs.declared.refusal.WheelRefusal.{WheelRefusal}
use Rattle.recording.specs.declared.tape.Tape.{Tape}
use Rattle.recording.specs.declared.wheel.Wheel.{Wheel}
use Rattle.machine.specs.Tables.{Tables}
use Rattle.session.specs.Benches.{taped, gapped, wheeled, lending_cells, lending_rows}
use Rattle.session.specs.Checking.{OnRecorded}
use Rattle.session.specs.declared.answer.Answer.{Answer}
use Rattle.session.specs.declared.bench.Bench.{Bench}
use Rattle.asked.specs.declared.call.BenchCall.{BenchCall}
use Rattle.asked.specs.declared.call.BenchCall.TheVariants as call

-- a tape, a gapped tape and a wheel are made of the numbers, or refused, as their makers say; a check leaves the bench
-- as it was
abbrev pub Answers : BenchCall → Tables → Bench → Bench → Answer → Type 0
Answers (call.Tape sizes masks) m before after a =
    (r : Result Tape TapeRefusal) × TapeMade sizes.signals sizes.stem sizes.cycle (vec_items masks) r × ((a, after) ≡ taped r before)
Answers (call.Gapped sizes masks lost) m before after a =
    (r : Result GappedTape TapeRefusal) × GappedMade sizes.signals sizes.stem sizes.cycle (vec_items masks) (vec_items lost) r × ((a, after) ≡ gapped r before)
Answers (call.Wheel teeth gap start) m before after a =
    (r : Result Wheel WheelRefusal) × WheelMade teeth gap start r × ((a, after) ≡ wheeled r before)
Answers (call.Cells n) m before after a = (a, after) ≡ lending_cells n before
Answers (call.Rows n) m before after a = (a, after) ≡ lending_rows n before
Answers (call.Check back rows) m before after a = OnRecorded before.recorded m (vec_items rows) back a × (after ≡ before)

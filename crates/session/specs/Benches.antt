-- A new bench, and what making a recording and lending cells and rows answer and leave.
use Rattle.std.specs.Prelude.{◌≡◌, ℕ, false, replicate, Ok, Err, Some, None, vec_items, Result}
use Rattle.recording.specs.Refusals.{tape_number, wheel_number}
use Rattle.recording.specs.declared.gapped.GappedTape.{GappedTape}
use Rattle.recording.specs.declared.refusal.TapeRefusal.{TapeRefusal}
use Rattle.recording.specs.declared.refusal.WheelRefusal.{WheelRefusal}
use Rattle.recording.specs.declared.tape.Tape.{Tape}
use Rattle.recording.specs.declared.truth.Ternary.TheVariants.{No}
use Rattle.recording.specs.declared.wheel.Wheel.{Wheel}
use Rattle.session.specs.declared.answer.Answer.{Answer}
use Rattle.session.specs.declared.answer.Answer.TheVariants as answer
use Rattle.session.specs.declared.bench.Bench.{Bench}
use Rattle.session.specs.declared.bench.Lending.{Lending}
use Rattle.session.specs.declared.bench.Recorded.{Recorded}
use Rattle.session.specs.declared.bench.Recorded.TheVariants as recorded

-- a new bench: no recording; so many cells of each kind and as many to write out with, all no, and so many rows, all
-- zero; all of them lent
pub record Fresh (cells rows : ℕ) (b : Bench) : Type 0 where
  pub nothing : b.recorded ≡ None
  pub flags : vec_items b.flags ≡ replicate cells false
  pub levels : vec_items b.levels ≡ replicate cells No
  pub bits : vec_items b.bits ≡ replicate cells false
  pub zeros : vec_items b.rows ≡ replicate rows 0
  pub lent : b.lent ≡ record { cells = cells; rows = rows }

abbrev pub with_recorded : Recorded → Bench → Bench
with_recorded r b = record { recorded = Some r; flags = b.flags; levels = b.levels; bits = b.bits; rows = b.rows; lent = b.lent }

abbrev pub with_lent : Lending → Bench → Bench
with_lent p b = record { recorded = b.recorded; flags = b.flags; levels = b.levels; bits = b.bits; rows = b.rows; lent = p }

-- a recording is the recording from now on; a refusal, by its number, leaves all as it was
abbrev pub put : Result Recorded ℕ → Bench → Answer × Bench
put (Ok r) b = (answer.Done, with_recorded r b)
put (Err n) b = (answer.Refused n, b)

-- a recording that is made is the recording from now on; a refused one leaves all as it was
abbrev pub played : {X E : Type 0} → (X → Recorded) → (E → ℕ) → Result X E → Bench → Answer × Bench
played kind number (Ok x) b = (answer.Done, with_recorded (kind x) b)
played kind number (Err e) b = (answer.Refused (number e), b)

abbrev pub taped : Result Tape TapeRefusal → Bench → Answer × Bench
taped = played recorded.Plain tape_number

abbrev pub gapped : Result GappedTape TapeRefusal → Bench → Answer × Bench
gapped = played recorded.Gapped tape_number

abbrev pub wheeled : Result Wheel WheelRefusal → Bench → Answer × Bench
wheeled = played recorded.Turning wheel_number

-- so many cells, or rows, are lent from now on
abbrev pub lending_cells : ℕ → Bench → Answer × Bench
lending_cells n b = (answer.Done, with_lent (record { cells = n; rows = b.lent.rows }) b)

abbrev pub lending_rows : ℕ → Bench → Answer × Bench
lending_rows n b = (answer.Done, with_lent (record { cells = b.lent.cells; rows = n }) b)

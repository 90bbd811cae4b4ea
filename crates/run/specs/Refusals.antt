-- The refusals of writing out, and of all calls on a sheet, by their numbers among the refused calls.
use Rattle.std.specs.Prelude.{ℕ}
use Rattle.sheet.specs.Refusals as sheet
use Rattle.meaning.specs.Refusals as judging
use Rattle.run.specs.declared.refusal.WriteRefusal.{WriteRefusal}
use Rattle.run.specs.declared.refusal.WriteRefusal.TheVariants.{NotJudged, TooFewRows}
use Rattle.run.specs.declared.refusal.Refusal.{Refusal}
use Rattle.run.specs.declared.refusal.Refusal.TheVariants.{Sheet, Judge, WriteOut}

abbrev pub number_of : WriteRefusal → ℕ
number_of (NotJudged e) = judging.number_of e
number_of TooFewRows = 7

abbrev pub refused_number : Refusal → ℕ
refused_number (Sheet e) = sheet.number_of e
refused_number (Judge e) = judging.number_of e
refused_number (WriteOut e) = number_of e

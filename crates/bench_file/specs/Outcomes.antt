-- The number and the place of a refusal, whatever layer it comes from.
use Rattle.std.specs.Prelude.{ℕ, Some, None, Option}
use Rattle.recording.specs.Refusals.{tape_number}
use Rattle.meaning.specs.Refusals.{number_of}
use Rattle.text.specs.Faults.{fault_number, fault_place}
use Rattle.bench_file.specs.declared.outcome.ReportRefusal.{ReportRefusal}
use Rattle.bench_file.specs.declared.outcome.ReportRefusal.TheVariants.{File, Tape, Text, Judging}
use Rattle.bench_file.specs.Refusals.{file_number, file_place}

abbrev pub report_number : ReportRefusal → ℕ
report_number (File e) = file_number e
report_number (Tape e) = tape_number e
report_number (Text f) = fault_number f
report_number (Judging e) = number_of e

abbrev pub report_place : ReportRefusal → Option ℕ
report_place (File e) = file_place e
report_place (Tape e) = None
report_place (Text f) = Some (fault_place f)
report_place (Judging e) = None

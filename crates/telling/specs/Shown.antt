-- What is printed of the samples that were judged on a bench, and of the rows of a run.
use Rattle.std.specs.Prelude.{ℕ, List, [], take, Some, None, Option, vec_items}
use Rattle.session.specs.declared.answer.Filled.{Filled}
use Rattle.session.specs.declared.bench.Bench.{Bench}
use Rattle.telling.specs.declared.told.JudgedRows.{JudgedRows}
use Rattle.telling.specs.declared.told.RunRows.{RunRows}
use Rattle.session.specs.declared.bench.Recorded.{Recorded}
use Rattle.session.specs.declared.bench.Recorded.TheVariants as recorded
use Rattle.session.specs.Among.{raised}
use Rattle.telling.specs.Truths.{rows_text, numbers_text}

-- the cells of the recording's kind
abbrev pub cells_text : Option Recorded → Filled → Bench → List ℕ
cells_text None j b = []
cells_text (Some (recorded.Plain t)) j b = rows_text raised j.samples j.lines (vec_items b.flags)
cells_text (Some (recorded.Gapped t)) j b = rows_text (λ x. x) j.samples j.lines (vec_items b.levels)
cells_text (Some (recorded.Turning x)) j b = rows_text raised j.samples j.lines (vec_items b.flags)

abbrev pub judged_text : JudgedRows → List ℕ
judged_text s = cells_text s.bench.now.recorded s.filled s.bench.now

abbrev pub run_text : RunRows → List ℕ
run_text s = numbers_text (take s.count (vec_items s.bench.now.rows))

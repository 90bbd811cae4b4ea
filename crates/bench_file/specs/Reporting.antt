-- What the steps of reporting answer, one by one.
use Rattle.std.specs.Prelude.{◌≡◌, ℕ, ◌+◌, List, length, take, Ok, Err, Result}
use Rattle.recording.specs.Gapped.{gapped}
use Rattle.recording.specs.Made.{gapped_word}
use Rattle.recording.specs.Tape.{Fits}
use Rattle.recording.specs.Word.{Word}
use Rattle.recording.specs.declared.gapped.GappedTape.{GappedTape}
use Rattle.recording.specs.declared.refusal.TapeRefusal.{TapeRefusal}
use Rattle.recording.specs.declared.truth.Ternary.{Ternary}
use Rattle.sheet.specs.declared.line.Line.{Line}
use Rattle.lexer.specs.Names.{known}
use Rattle.meaning.specs.declared.refusal.Refusal.{Refusal}
use Rattle.bench_file.specs.declared.file.BenchFile.{BenchFile}
use Rattle.bench_file.specs.declared.outcome.Report.{Report}
use Rattle.bench_file.specs.Reports.{Judged, Unjudged}

-- masks that fit a tape of the file's sizes
abbrev pub FitsFile : BenchFile → List ℕ → Type 0
FitsFile f masks = Fits (length (known f.names)) f.stem f.cycle (take (f.stem + f.cycle) masks)

abbrev pub Taped : BenchFile → Result GappedTape TapeRefusal → Type 0
Taped f (Ok t) =
    (fits : FitsFile f f.masks) × FitsFile f f.lost
    × (gapped_word t ≡ gapped (length (known f.names)) f.stem f.cycle (take (f.stem + f.cycle) f.masks) (take (f.stem + f.cycle) f.lost) fits.sizes)
Taped f (Err e) = FitsFile f f.masks → FitsFile f f.lost → ⊥

-- the machine and the verdict of lines on a word
abbrev pub Told : List Line → Word Ternary → ℕ → Result Report Refusal → Type 0
Told ls w cells (Ok p) = Judged ls w p
Told ls w cells (Err e) = Unjudged ls w cells e

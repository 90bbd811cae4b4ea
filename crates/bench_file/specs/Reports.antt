-- What is reported of a bench file: for every sequence of bytes one report or one refusal. Checks go down the file, then
-- come the tape, the rule text, and judging.
use Rattle.std.specs.Prelude.{◌≡◌, ℕ, ◌+◌, ◌*◌, ◌<◌, List, [], length, Ok, Err, Result, slice_index}
use Rattle.recording.specs.Gapped.{gapped}
use Rattle.recording.specs.Kinds.{three}
use Rattle.recording.specs.Tape.{Fits}
use Rattle.recording.specs.Word.{Word}
use Rattle.recording.specs.declared.refusal.TapeRefusal.{TapeRefusal}
use Rattle.recording.specs.declared.truth.Ternary.{Ternary}
use Rattle.sheet.specs.declared.line.Line.{Line}
use Rattle.sheet.specs.Table.{HasSignals}
use Rattle.lexer.specs.Names.{names_of}
use Rattle.meaning.specs.Sheet.{Values, rule_of as last_line}
use Rattle.meaning.specs.Verdict.{horizon}
use Rattle.meaning.specs.declared.refusal.Refusal.{Refusal}
use Rattle.meaning.specs.declared.refusal.Refusal.TheVariants.{NoSignal, TooFewCells}
use Rattle.laws.specs.Laws.{TheValues}
use Rattle.machine.specs.Machines.{tables}
use Rattle.machine.specs.Translation.{translate}
use Rattle.text.specs.declared.fault.Fault.{Fault}
use Rattle.text.specs.Reading.{FirstFault, Fitting}
use Rattle.text.specs.Rules.{Rule, written}
use Rattle.bench_file.specs.declared.outcome.Report.{Report}
use Rattle.bench_file.specs.declared.outcome.ReportRefusal.{ReportRefusal}
use Rattle.bench_file.specs.declared.outcome.ReportRefusal.TheVariants.{File, Tape, Text, Judging}
use Rattle.bench_file.specs.declared.refusal.FileRefusal.{FileRefusal}
use Rattle.bench_file.specs.Files.{lines, line, samples, signals, InForm, Refuses}
use Rattle.bench_file.specs.Lines.{stem_of, cycle_of, rule_of, mask_of, lost_of}

-- the masks and lost masks that the lines of the samples say
pub record Sampled (ls : List (List ℕ)) (masks lost : List ℕ) : Type 0 where
  pub as_many : length masks ≡ samples ls
  pub lost_as_many : length lost ≡ samples ls
  pub mask : (t : ℕ) → t < samples ls → slice_index masks t ≡ mask_of (line ls (3 + t))
  pub lost_mask : (t : ℕ) → t < samples ls → slice_index lost t ≡ lost_of (line ls (3 + t))

-- masks of this file fit a gapped tape
abbrev pub FitsTape : List (List ℕ) → List ℕ → Type 0
FitsTape ls masks = Fits (signals ls) (stem_of (line ls 1)) (cycle_of (line ls 1)) masks

-- the recording of a file that is in form
pub record Recorded (bytes : List ℕ) : Type 0 where
  pub in_form : InForm bytes
  pub masks : List ℕ
  pub lost : List ℕ
  pub sampled : Sampled (lines bytes) masks lost
  pub fits : FitsTape (lines bytes) masks
  pub lost_fits : FitsTape (lines bytes) lost

abbrev pub word : (bytes : List ℕ) → Recorded bytes → Word Ternary
word bytes d =
    gapped (signals (lines bytes)) (stem_of (line (lines bytes) 1)) (cycle_of (line (lines bytes) 1)) d.masks d.lost d.fits.sizes

abbrev pub names : List ℕ → List (List ℕ)
names bytes = names_of (line (lines bytes) 2)

abbrev pub rule_text : List ℕ → List ℕ
rule_text bytes = rule_of (line (lines bytes) 1)

-- why lines are not judged on a word with so many cells
abbrev pub Unjudged : List Line → Word Ternary → ℕ → Refusal → Type 0
Unjudged ls w cells NoSignal = HasSignals ls w.signals → ⊥
Unjudged ls w cells TooFewCells = HasSignals ls w.signals × (cells < length ls * horizon ls w)

-- the machine of the lines, and the value of the last at sample 0
pub record Judged (ls : List Line) (w : Word Ternary) (r : Report) : Type 0 where
  pub machine : tables r.machine ≡ translate ls
  pub f : ℕ → Values three
  pub values : TheValues three w ls f
  pub verdict : r.verdict ≡ f (last_line ls) 0

-- what is answered, where so many cells are lent
pub data Reports (bytes : List ℕ) (cells : ℕ) : Result Report ReportRefusal → Type 0 where
  out_of_form : (e : FileRefusal) → Refuses bytes e → Reports bytes cells (Err (File e))
  no_tape : (e : TapeRefusal) (masks lost : List ℕ) → InForm bytes → Sampled (lines bytes) masks lost
      → (FitsTape (lines bytes) masks → FitsTape (lines bytes) lost → ⊥) → Reports bytes cells (Err (Tape e))
  faulty : (f : Fault) → Recorded bytes → FirstFault (names bytes) (rule_text bytes) [] f → Reports bytes cells (Err (Text f))
  unjudged : (e : Refusal) (d : Recorded bytes) (r : Rule) → Fitting (names bytes) (rule_text bytes) [] r
      → Unjudged (written [] r) (word bytes d) cells e → Reports bytes cells (Err (Judging e))
  judged : (p : Report) (d : Recorded bytes) (r : Rule) → Fitting (names bytes) (rule_text bytes) [] r
      → Judged (written [] r) (word bytes d) p → Reports bytes cells (Ok p)

-- How far a sheet is judged: the samples S + v of a word, where S is the stem and a cycle v for each line that looks
-- back, and after the last of them comes sample S.
use Rattle.std.specs.Prelude.{◌≡◌, ℕ, ◌*◌, ◌<◌, ◌≤◌, List, length, Ok, Err, Result}
use Rattle.recording.specs.Word.{Word}
use Rattle.sheet.specs.declared.line.Line.{Line}
use Rattle.sheet.specs.Table.{HasSignals}
use Rattle.meaning.specs.Verdict.{steady, horizon}
use Rattle.meaning.specs.declared.extent.Extent.{Extent}
use Rattle.meaning.specs.declared.refusal.Refusal.{Refusal}
use Rattle.meaning.specs.declared.refusal.Refusal.TheVariants.{NoSignal, TooFewCells}

module _ {V : Type 0} (lines : List Line) (w : Word V) (cells : ℕ) where
  -- the word has the named signals, and there is a cell for each line at each sample
  pub record Spans (extent : Extent) : Type 0 where
    pub has_signals : HasSignals lines w.signals
    pub room : length lines * horizon lines w ≤ cells
    pub samples : extent.samples ≡ horizon lines w
    pub steady_is : extent.steady ≡ steady lines w
    pub few : extent.samples ≤ 4352

  -- a missing signal is told before missing cells
  abbrev pub Reaches : Result Extent Refusal → Type 0
  Reaches (Ok extent) = Spans extent
  Reaches (Err NoSignal) = HasSignals lines w.signals → ⊥
  Reaches (Err TooFewCells) = HasSignals lines w.signals × (cells < length lines * horizon lines w)

-- What judging answers, and what it leaves in the cells.
use Rattle.std.specs.Prelude.{◌≡◌, ℕ, ◌+◌, ◌*◌, ◌<◌, ◌≤◌, List, length, Ok, Err, Result, slice_index_or}
use Rattle.recording.specs.Kind.{Kind}
use Rattle.recording.specs.Word.{Word, meant}
use Rattle.sheet.specs.declared.line.Line.{Line}
use Rattle.sheet.specs.Table.{line, HasSignals, pasts}
use Rattle.meaning.specs.Sheet.{Values, Valuation, Periodic}
use Rattle.meaning.specs.declared.refusal.Refusal.{Refusal}
use Rattle.meaning.specs.declared.refusal.Refusal.TheVariants.{NoSignal, TooFewCells}

-- the sample from which on every line repeats: the stem, and a cycle for each line that looks back, used or not
abbrev pub steady : {V : Type 0} → List Line → Word V → ℕ
steady lines w = w.stem + pasts (line lines) (length lines) * w.cycle

-- how many samples are judged
abbrev pub horizon : {V : Type 0} → List Line → Word V → ℕ
horizon lines w = steady lines w + w.cycle

-- a rule's line number and a sample: what is answered is the value of that line there
module _ (K : Kind) {V : Type 0} (means : V → K.Value) (lines : List Line) (w : Word V) (rule at : ℕ) (before after : List V) where
  pub record Filled (answer : V) : Type 0 where
    pub has_signals : HasSignals lines w.signals
    pub room : length lines * horizon lines w ≤ length before
    -- the valuation: there is one, there is no other, and every line repeats
    pub f : ℕ → Values K
    pub valuation : Valuation K (meant means w) lines f
    pub only : (g : ℕ → Values K) → Valuation K (meant means w) lines g → (k : ℕ) → k < length lines → (t : ℕ) → g k t ≡ f k t
    pub again : (k : ℕ) → k < length lines → Periodic K w.cycle (steady lines w) (f k)
    -- cell t * L + k means line k at sample t
    pub cells : (k t : ℕ) → k < length lines → t < horizon lines w → (d : V) → means (slice_index_or after (t * length lines + k) d) ≡ f k t
    pub further : (i : ℕ) → length lines * horizon lines w ≤ i → (d : V) → slice_index_or after i d ≡ slice_index_or before i d
    pub as_long : length after ≡ length before
    pub verdict : means answer ≡ f rule at

  -- a refused sheet leaves the cells as they were; a missing signal is told before missing cells
  abbrev pub Verdict : Result V Refusal → Type 0
  Verdict (Ok answer) = Filled answer
  Verdict (Err NoSignal) = (HasSignals lines w.signals → ⊥) × (after ≡ before)
  Verdict (Err TooFewCells) = HasSignals lines w.signals × (length before < length lines * horizon lines w) × (after ≡ before)

-- What holds of the lines of a sealed sheet, on every recording.
use Rattle.std.specs.Prelude.{◌≡◌, ℕ, ◌<◌, ◌≤◌, List, length, take}
use Rattle.recording.specs.Kind.{Kind, TwoValued}
use Rattle.recording.specs.Kinds.{three}
use Rattle.recording.specs.Word.{Word}
use Rattle.sheet.specs.declared.line.Line.{Line}
use Rattle.sheet.specs.Ledger.{Ledger, Shut}
use Rattle.sheet.specs.Table.{HasSignals}
use Rattle.meaning.specs.Sheet.{Values}
use Rattle.laws.specs.Laws.{TheValues, OnWords, Recognises, RunsWritten, Settled}
use Rattle.machine.specs.Translation.{Sound}
use Rattle.run.specs.declared.call.Call.{Call}
use Rattle.run.specs.Histories.{after}

-- K is any truth kind, B a two-valued one
pub record Law (K B : Kind) (lines : List Line) : Type 0 where
  -- there is a last line, the rule
  pub some : 0 < length lines
  -- on every word of kind K that has the named signals the lines have exactly one valuation: its value for the rule at
  -- sample 0 is the verdict
  pub judged : (word : Word K.Value) → HasSignals lines word.signals → (f : ℕ → Values K) × TheValues K word lines f
  pub two_valued : TwoValued B
  -- the signs of the translation are those of the lines, and its tables name what is there
  pub sound : Sound lines
  -- on every word of kind B that has the named signals the translation has an accepting run exactly when the rule holds
  -- at sample 0
  pub machine : OnWords B lines (Recognises B lines)
  -- there the written run is a run of it, and accepting exactly when the rule holds at sample 0
  pub run : OnWords B lines (RunsWritten B lines)
  -- what a three-valued word says, unless it is lost, every word of kind B says too that has the named signals and agrees
  -- with it wherever it is not lost
  pub filled : OnWords three lines (Settled B lines)

-- it holds while the ledger is sealed
abbrev pub WhileSealed : Kind → Kind → Ledger → Type 0
WhileSealed K B l = l.form ≡ Shut → Law K B l.lines

-- and so before the first of these calls and after each of them
abbrev pub Throughout : Kind → Kind → Ledger → List Call → Type 0
Throughout K B l calls = (n : ℕ) → n ≤ length calls → WhileSealed K B (after l (take n calls))

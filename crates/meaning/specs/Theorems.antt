-- Laws of the valuation, at each truth kind.
use Rattle.std.specs.Prelude.{◌≡◌, ℕ, suc, ◌+◌, ◌*◌, ◌<◌, List, length}
use Rattle.recording.specs.Kind.{Kind}
use Rattle.recording.specs.Word.{Word}
use Rattle.sheet.specs.declared.line.Line.{Line}
use Rattle.sheet.specs.Table.{line, Sheet, HasSignals, pasts}
use Rattle.meaning.specs.Sheet.{Values, Valuation, Periodic}

-- Two valuations of a sheet on a word agree on every line.
abbrev pub Unique : Kind → Type 0
Unique K =
    (word : Word K.Value) (lines : List Line) → Sheet lines → (f g : ℕ → Values K) → Valuation K word lines f → Valuation K word lines g
    → (k : ℕ) → k < length lines → (t : ℕ) → f k t ≡ g k t

-- Line k repeats from the stem and a cycle for each line up to k that looks back.
abbrev pub Repeats : Kind → Type 0
Repeats K =
    (word : Word K.Value) (lines : List Line) → Sheet lines → HasSignals lines word.signals → (f : ℕ → Values K) → Valuation K word lines f
    → (k : ℕ) → k < length lines → Periodic K word.cycle (word.stem + pasts (line lines) (suc k) * word.cycle) (f k)

-- Every sheet has a valuation on every word that has its signals.
abbrev pub Exists : Kind → Type 0
Exists K =
    (word : Word K.Value) (lines : List Line) → Sheet lines → HasSignals lines word.signals → (f : ℕ → Values K) × Valuation K word lines f

-- What temporal logic with past says of each line, in words of where the lower lines hold.
use Rattle.std.specs.Prelude.{◌≡◌, ℕ, ◌+◌, ◌-◌, ◌<◌, ◌≤◌, true, ◌⊎◌, ◌↔◌, List, length}
use Rattle.recording.specs.Kind.{Kind}
use Rattle.recording.specs.Word.{Word}
use Rattle.sheet.specs.declared.line.Line.{Line}
use Rattle.sheet.specs.declared.line.Line.TheVariants.{Const, Signal, Not, And, Or, Next, Until, WeakUntil, Previous, WeakPrevious, Since, WeakSince}
use Rattle.sheet.specs.Table.{line, Sheet, HasSignals}
use Rattle.meaning.specs.Sheet.{Values, Valuation, Holds}

module _ (K : Kind) (word : Word K.Value) (f : ℕ → Values K) where
  -- right holds at some d from t on, and left from t to d - 1
  abbrev pub Reaches : ℕ → ℕ → ℕ → Type 0
  Reaches left right t = (d : ℕ) × (t ≤ d) × Holds K f right d × ((m : ℕ) → t ≤ m → m < d → Holds K f left m)

  -- right held at some d up to t, and left from d + 1 to t
  abbrev pub Reached : ℕ → ℕ → ℕ → Type 0
  Reached left right t = (d : ℕ) × (d ≤ t) × Holds K f right d × ((m : ℕ) → d < m → m ≤ t → Holds K f left m)

  -- where a line holds
  abbrev pub Says : Line → ℕ → Type 0
  Says (Const b) t = b ≡ true
  Says (Signal i) t = word.at i t ≡ K.Yes
  Says (Not a) t = Holds K f a t → ⊥
  Says (And a b) t = Holds K f a t × Holds K f b t
  Says (Or a b) t = Holds K f a t ⊎ Holds K f b t
  Says (Next a) t = Holds K f a (t + 1)
  Says (Until a b) t = Reaches a b t
  Says (WeakUntil a b) t = Reaches a b t ⊎ ((m : ℕ) → t ≤ m → Holds K f a m)
  Says (Previous a) t = (0 < t) × Holds K f a (t - 1)
  Says (WeakPrevious a) t = (t ≡ 0) ⊎ Holds K f a (t - 1)
  Says (Since a b) t = Reached a b t
  Says (WeakSince a b) t = Reached a b t ⊎ ((m : ℕ) → m ≤ t → Holds K f a m)

-- In a valuation each line holds exactly where temporal logic says so.
abbrev pub ReadsAsLogic : Kind → Type 0
ReadsAsLogic K =
    (word : Word K.Value) (lines : List Line) → Sheet lines → HasSignals lines word.signals → (f : ℕ → Values K) → Valuation K word lines f
    → (k : ℕ) → k < length lines → (t : ℕ) → Holds K f k t ↔ Says K word f (line lines k) t

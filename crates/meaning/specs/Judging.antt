-- How the values of an until are found in two passes down the samples: what the evaluator rests on.
use Rattle.std.specs.Prelude.{◌≡◌, ℕ, zero, suc, ◌+◌, ◌*◌, ◌<◌, List, length}
use Rattle.recording.specs.Kind.{Kind}
use Rattle.recording.specs.Word.{Word}
use Rattle.sheet.specs.declared.line.Line.{Line}
use Rattle.sheet.specs.declared.line.Line.TheVariants.{And, Const, Next, Not, Or, Previous, Signal, Since, Until, WeakPrevious, WeakSince, WeakUntil}
use Rattle.sheet.specs.Table.{line, Sheet, HasSignals, pasts}
use Rattle.meaning.specs.Sheet.{Values, Valuation}

module _ (K : Kind) where
  -- n samples down to t, from the value z above them
  abbrev pub pass : Values K → Values K → ℕ → ℕ → K.Value → K.Value
  pass l r t zero z = z
  pass l r t (suc n) z = K.Or (r t) (K.And (l t) (pass l r (suc t) n z))

  -- y are an until's values: one pass over a cycle gives the value at S, and each value follows from the next
  pub record TwoPasses (l r y : Values K) (S v : ℕ) (z : K.Value) : Type 0 where
    pub at_steady : y S ≡ pass l r S v z
    pub again : y (S + v) ≡ y S
    pub down : (t : ℕ) → y t ≡ K.Or (r t) (K.And (l t) (y (suc t)))

  -- what two passes give, of the lines that look ahead for ever
  abbrev pub Future : Word K.Value → Line → (ℕ → Values K) → Values K → ℕ → Type 0
  Future word (Until a b) f y S = TwoPasses (f a) (f b) y S word.cycle K.No
  Future word (WeakUntil a b) f y S = TwoPasses (f a) (f b) y S word.cycle K.Yes
  Future word (Const b) f y S = Unit {0}
  Future word (Signal i) f y S = Unit {0}
  Future word (Not a) f y S = Unit {0}
  Future word (And a b) f y S = Unit {0}
  Future word (Or a b) f y S = Unit {0}
  Future word (Next a) f y S = Unit {0}
  Future word (Previous a) f y S = Unit {0}
  Future word (WeakPrevious a) f y S = Unit {0}
  Future word (Since a b) f y S = Unit {0}
  Future word (WeakSince a b) f y S = Unit {0}

  -- every until of a valuation is found so
  abbrev pub Judged : Type 0
  Judged =
      (word : Word K.Value) (lines : List Line) → Sheet lines → HasSignals lines word.signals → (f : ℕ → Values K) → Valuation K word lines f
      → (k : ℕ) → k < length lines → Future word (line lines k) f (f k) (word.stem + pasts (line lines) (length lines) * word.cycle)

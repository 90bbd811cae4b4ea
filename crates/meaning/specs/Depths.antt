-- How deep a line looks back: by how many cycles after the stem it repeats at the latest. The evaluator's inner functions
-- cite this.
use Rattle.std.specs.Prelude.{ℕ, ◌+◌, max}
use Rattle.sheet.specs.declared.line.Line.{Line}
use Rattle.sheet.specs.declared.line.Line.TheVariants.{Const, Signal, Not, And, Or, Next, Until, WeakUntil, Previous, WeakPrevious, Since, WeakSince}
use Rattle.sheet.specs.Table.{past}

-- the depth of the deeper line that a line names, where d are the depths of the lines
abbrev pub under : (ℕ → ℕ) → Line → ℕ
under d (Const b) = 0
under d (Signal i) = 0
under d (Not a) = d a
under d (And a b) = max (d a) (d b)
under d (Or a b) = max (d a) (d b)
under d (Next a) = d a
under d (Until a b) = max (d a) (d b)
under d (WeakUntil a b) = max (d a) (d b)
under d (Previous a) = d a
under d (WeakPrevious a) = d a
under d (Since a b) = max (d a) (d b)
under d (WeakSince a b) = max (d a) (d b)

-- a line that looks back is one deeper
abbrev pub deep : (ℕ → ℕ) → Line → ℕ
deep d x = under d x + past x

-- How the evaluator fills a line's column from lower columns. Its inner functions cite this; what judging promises is in
-- the valuation's words alone.
use Rattle.std.specs.Prelude.{ℕ, zero, suc, ◌+◌, ◌-◌, cond, nat_lt}
use Rattle.recording.specs.Kind.{Kind}
use Rattle.recording.specs.Word.{Word}
use Rattle.sheet.specs.declared.line.Line.{Line}
use Rattle.sheet.specs.declared.line.Line.TheVariants.{Const, Signal, Not, And, Or, Next, Until, WeakUntil, Previous, WeakPrevious, Since, WeakSince}
use Rattle.meaning.specs.Sheet.{Values, before, constant}
use Rattle.meaning.specs.Judging.{pass}

-- the sample after t, where after the last of n samples comes sample back
abbrev pub following : ℕ → ℕ → ℕ → ℕ
following back n t = cond (nat_lt (t + 1) n) (t + 1) back

-- an until's or a weak until's value at sample t of n: a pass down the last cycle from z, and one more from there down to t
abbrev pub passes : (K : Kind) → Values K → Values K → ℕ → ℕ → K.Value → ℕ → K.Value
passes K l r back n z t = pass K l r t (n - t) (pass K l r back (n - back) z)

-- the value z, carried over the first n samples by: right, or left and the last
abbrev pub carried : (K : Kind) → Values K → Values K → K.Value → ℕ → K.Value
carried K l r z zero = z
carried K l r z (suc n) = K.Or (r n) (K.And (l n) (carried K l r z n))

-- what is written for a line at sample t, where f are the values of the lower lines, n the samples, and back the one
-- after the last
abbrev pub written : (K : Kind) → Word K.Value → ℕ → ℕ → Line → (ℕ → Values K) → ℕ → K.Value
written K word back n (Const b) f t = constant K b
written K word back n (Signal i) f t = word.at i t
written K word back n (Not a) f t = K.Not (f a t)
written K word back n (And a b) f t = K.And (f a t) (f b t)
written K word back n (Or a b) f t = K.Or (f a t) (f b t)
written K word back n (Next a) f t = f a (following back n t)
written K word back n (Until a b) f t = passes K (f a) (f b) back n K.No t
written K word back n (WeakUntil a b) f t = passes K (f a) (f b) back n K.Yes t
written K word back n (Previous a) f t = before K K.No (f a) t
written K word back n (WeakPrevious a) f t = before K K.Yes (f a) t
written K word back n (Since a b) f t = carried K (f a) (f b) K.No (suc t)
written K word back n (WeakSince a b) f t = carried K (f a) (f b) K.Yes (suc t)

-- Which signs a line has. The rule has plus; a not gives its operand the opposite of each of its signs; other lines
-- hand their signs on; no line has a sign otherwise.
use Rattle.std.specs.Prelude.{◌≡◌, ℕ, ◌<◌, ◌⊎◌}
use Rattle.sheet.specs.declared.line.Line.{Line}
use Rattle.sheet.specs.declared.line.Line.TheVariants.{Const, Signal, Not, And, Or, Next, Until, WeakUntil, Previous, WeakPrevious, Since, WeakSince}

pub data Sign : Type 0 where
  plus minus : Sign

abbrev pub opposite : Sign → Sign
opposite plus = minus
opposite minus = plus

-- a line that is no not hands its signs on to line a
abbrev pub HandsOn : Line → ℕ → Type 0
HandsOn (Const v) a = ⊥
HandsOn (Signal i) a = ⊥
HandsOn (Not b) a = ⊥
HandsOn (And b c) a = (a ≡ b) ⊎ (a ≡ c)
HandsOn (Or b c) a = (a ≡ b) ⊎ (a ≡ c)
HandsOn (Next b) a = a ≡ b
HandsOn (Until b c) a = (a ≡ b) ⊎ (a ≡ c)
HandsOn (WeakUntil b c) a = (a ≡ b) ⊎ (a ≡ c)
HandsOn (Previous b) a = a ≡ b
HandsOn (WeakPrevious b) a = a ≡ b
HandsOn (Since b c) a = (a ≡ b) ⊎ (a ≡ c)
HandsOn (WeakSince b c) a = (a ≡ b) ⊎ (a ≡ c)

-- x are the lines, n their number, and the rule's is r
pub data HasSign (x : ℕ → Line) (n r : ℕ) : ℕ → Sign → Type 0 where
  the_rule : HasSign x n r r plus
  negated : (k a : ℕ) (s : Sign) → k < n → HasSign x n r k s → x k ≡ Not a → HasSign x n r a (opposite s)
  handed_on : (k a : ℕ) (s : Sign) → k < n → HasSign x n r k s → HandsOn (x k) a → HasSign x n r a s

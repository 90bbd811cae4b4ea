-- The rules, how each is spelled, and which lines it has on the sheet.
use Rattle.std.specs.Prelude.{◌≡◌, ℕ, ◌+◌, ◌-◌, ◌<◌, ◌≤◌, true, false, List, [], ◌∷◌, ◌++◌, length, Some, None, Option, ◌==◌, ◌≢◌, slice_index_or}
use Rattle.sheet.specs.declared.line.Line.{Line}
use Rattle.sheet.specs.declared.line.Line.TheVariants as line
use Rattle.text.specs.declared.sign.Prefix.{Prefix}
use Rattle.text.specs.declared.sign.Prefix.TheVariants.{Not, Next, Previous, WeakPrevious, Finally, Globally, Once, Historically}
use Rattle.text.specs.declared.sign.Infix.{Infix}
use Rattle.text.specs.declared.sign.Infix.TheVariants.{And, Or, Implies, Until, WeakUntil, Since, WeakSince}

-- the sign of a prefix: ! X Y Z F G O H
abbrev pub prefix_sign : Prefix → ℕ
prefix_sign Not = 33
prefix_sign Next = 88
prefix_sign Previous = 89
prefix_sign WeakPrevious = 90
prefix_sign Finally = 70
prefix_sign Globally = 71
prefix_sign Once = 79
prefix_sign Historically = 72

-- the sign between the units of a pair: & | > U W S B
abbrev pub infix_sign : Infix → ℕ
infix_sign And = 38
infix_sign Or = 124
infix_sign Implies = 62
infix_sign Until = 85
infix_sign WeakUntil = 87
infix_sign Since = 83
infix_sign WeakSince = 66

abbrev pub IsPrefix : ℕ → Option Prefix → Type 0
IsPrefix c None = (p : Prefix) → prefix_sign p ≢ c
IsPrefix c (Some p) = prefix_sign p ≡ c

abbrev pub IsInfix : ℕ → Option Infix → Type 0
IsInfix c None = (s : Infix) → infix_sign s ≢ c
IsInfix c (Some s) = infix_sign s ≡ c

-- a rule: a digit's value, the signal of a name, a prefix with a rule, or a pair of rules
pub data Rule : Type 0 where
  truth : ℕ → Rule
  signal : ℕ → Rule
  under : Prefix → Rule → Rule
  pair : Rule → Infix → Rule → Rule

-- how a rule is spelled, where the signals have these names
abbrev pub spelled : List (List ℕ) → Rule → List ℕ
spelled names (truth v) = (48 + v) ∷ []
spelled names (signal k) = slice_index_or names k []
spelled names (under p r) = prefix_sign p ∷ spelled names r
spelled names (pair l s r) = 40 ∷ (spelled names l ++ (infix_sign s ∷ (spelled names r ++ (41 ∷ []))))

-- inside n levels, the rule has the digits 0 and 1, signals that have names, and no level past 32
abbrev pub Fits : List (List ℕ) → ℕ → Rule → Type 0
Fits names n (truth v) = v ≤ 1
Fits names n (signal k) = k < length names
Fits names n (under p r) = (n < 32) × Fits names (n + 1) r
Fits names n (pair l s r) = (n < 32) × Fits names (n + 1) l × Fits names (n + 1) r

-- a prefix's own lines, where m lines stand and `unit` is the number of its unit's line: Fp is (1Up), Gp is (pW0),
-- Op is (1Sp), Hp is (pB0), and the added constant comes first
abbrev pub prefix_lines : Prefix → ℕ → ℕ → List Line
prefix_lines Not unit m = line.Not unit ∷ []
prefix_lines Next unit m = line.Next unit ∷ []
prefix_lines Previous unit m = line.Previous unit ∷ []
prefix_lines WeakPrevious unit m = line.WeakPrevious unit ∷ []
prefix_lines Finally unit m = line.Const true ∷ line.Until m unit ∷ []
prefix_lines Globally unit m = line.Const false ∷ line.WeakUntil unit m ∷ []
prefix_lines Once unit m = line.Const true ∷ line.Since m unit ∷ []
prefix_lines Historically unit m = line.Const false ∷ line.WeakSince unit m ∷ []

-- a pair's own lines, where m lines stand and `left` and `right` are the numbers of its units' lines: (p>q) is
-- (!p|q), and the added not comes first
abbrev pub infix_lines : Infix → ℕ → ℕ → ℕ → List Line
infix_lines And left right m = line.And left right ∷ []
infix_lines Or left right m = line.Or left right ∷ []
infix_lines Implies left right m = line.Not left ∷ line.Or m right ∷ []
infix_lines Until left right m = line.Until left right ∷ []
infix_lines WeakUntil left right m = line.WeakUntil left right ∷ []
infix_lines Since left right m = line.Since left right ∷ []
infix_lines WeakSince left right m = line.WeakSince left right ∷ []

-- the number of the last line
abbrev pub last : List Line → ℕ
last ls = length ls - 1

-- the lines of a sheet that had the lines `ls`, once the rule is written: those of the units from left to right, then
-- the rule's own
abbrev pub written : List Line → Rule → List Line
written ls (truth v) = ls ++ line.Const (v == 1) ∷ []
written ls (signal k) = ls ++ line.Signal k ∷ []
written ls (under p r) = written ls r ++ prefix_lines p (last (written ls r)) (length (written ls r))
written ls (pair l s r) =
    written (written ls l) r ++ infix_lines s (last (written ls l)) (last (written (written ls l) r)) (length (written (written ls l) r))

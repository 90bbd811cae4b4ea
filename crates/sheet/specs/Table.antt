-- The sheet's table: which line a code and two operands name, which operands it allows, and what a sheet of such
-- lines keeps.
use Rattle.std.specs.Prelude.{ℕ, zero, suc, ◌+◌, ◌<◌, Bool, true, false, ◌&&◌, List, [], ◌∷◌, map, length, Some, None, Option, ◌==◌, nat_lt, slice_index_or, cond}
use Rattle.sheet.specs.declared.line.Line.{Line}
use Rattle.sheet.specs.declared.line.Line.TheVariants.{Const, Signal, Not, And, Or, Next, Until, WeakUntil, Previous, WeakPrevious, Since, WeakSince}

-- the lines with these operands, by their codes 0 to 11
abbrev pub lines_with : ℕ → ℕ → List Line
lines_with a b =
    Const (a == 1) ∷ Signal a ∷ Not a ∷ And a b ∷ Or a b ∷ Next a ∷ Until a b ∷ WeakUntil a b ∷ Previous a ∷ WeakPrevious a ∷ Since a b ∷ WeakSince a b ∷ []

-- no code is above 11
abbrev pub named_line : ℕ → ℕ → ℕ → Option Line
named_line c a b = slice_index_or (map Some (lines_with a b)) c None

-- operands that a line may have on a sheet of n lines: a bit, a signal, one lower line, two lower lines; an unused
-- operand is 0
abbrev pub a_bit : ℕ → ℕ → ℕ → Bool
a_bit n a b = nat_lt a 2 && b == 0

abbrev pub a_signal : ℕ → ℕ → ℕ → Bool
a_signal n a b = nat_lt a 32 && b == 0

abbrev pub a_line : ℕ → ℕ → ℕ → Bool
a_line n a b = nat_lt a n && b == 0

abbrev pub two_lines : ℕ → ℕ → ℕ → Bool
two_lines n a b = nat_lt a n && nat_lt b n

-- which of these each line has
abbrev pub operands_of : Line → ℕ → ℕ → ℕ → Bool
operands_of (Const v) = a_bit
operands_of (Signal i) = a_signal
operands_of (Not a) = a_line
operands_of (And a b) = two_lines
operands_of (Or a b) = two_lines
operands_of (Next a) = a_line
operands_of (Until a b) = two_lines
operands_of (WeakUntil a b) = two_lines
operands_of (Previous a) = a_line
operands_of (WeakPrevious a) = a_line
operands_of (Since a b) = two_lines
operands_of (WeakSince a b) = two_lines

-- the two operands by which its code names a line
abbrev pub operands : Line → ℕ × ℕ
operands (Const v) = (cond v 1 0, 0)
operands (Signal i) = (i, 0)
operands (Not a) = (a, 0)
operands (And a b) = (a, b)
operands (Or a b) = (a, b)
operands (Next a) = (a, 0)
operands (Until a b) = (a, b)
operands (WeakUntil a b) = (a, b)
operands (Previous a) = (a, 0)
operands (WeakPrevious a) = (a, 0)
operands (Since a b) = (a, b)
operands (WeakSince a b) = (a, b)

-- what stands past the end of a list of lines
abbrev pub blank : Line
blank = Const false

-- line k of a sheet
abbrev pub line : List Line → ℕ → Line
line lines k = slice_index_or lines k blank

-- a line names signals below 32, and lines below n
abbrev pub Lower : ℕ → Line → Type 0
Lower n (Const v) = Unit {0}
Lower n (Signal i) = i < 32
Lower n (Not a) = a < n
Lower n (And a b) = (a < n) × (b < n)
Lower n (Or a b) = (a < n) × (b < n)
Lower n (Next a) = a < n
Lower n (Until a b) = (a < n) × (b < n)
Lower n (WeakUntil a b) = (a < n) × (b < n)
Lower n (Previous a) = a < n
Lower n (WeakPrevious a) = a < n
Lower n (Since a b) = (a < n) × (b < n)
Lower n (WeakSince a b) = (a < n) × (b < n)

-- the same as a test, as a struct's invariant has to have it
abbrev pub fits : ℕ → Line → Bool
fits n (Const v) = true
fits n (Signal i) = nat_lt i 32
fits n (Not a) = nat_lt a n
fits n (And a b) = nat_lt a n && nat_lt b n
fits n (Or a b) = nat_lt a n && nat_lt b n
fits n (Next a) = nat_lt a n
fits n (Until a b) = nat_lt a n && nat_lt b n
fits n (WeakUntil a b) = nat_lt a n && nat_lt b n
fits n (Previous a) = nat_lt a n
fits n (WeakPrevious a) = nat_lt a n
fits n (Since a b) = nat_lt a n && nat_lt b n
fits n (WeakSince a b) = nat_lt a n && nat_lt b n

-- each line of a sheet names lower lines
abbrev pub Sheet : List Line → Type 0
Sheet lines = (k : ℕ) → k < length lines → Lower k (line lines k)

-- the signal that a line names, if it names one, is below c
abbrev pub Named : ℕ → Line → Type 0
Named c (Const v) = Unit {0}
Named c (Signal i) = i < c
Named c (Not a) = Unit {0}
Named c (And a b) = Unit {0}
Named c (Or a b) = Unit {0}
Named c (Next a) = Unit {0}
Named c (Until a b) = Unit {0}
Named c (WeakUntil a b) = Unit {0}
Named c (Previous a) = Unit {0}
Named c (WeakPrevious a) = Unit {0}
Named c (Since a b) = Unit {0}
Named c (WeakSince a b) = Unit {0}

-- a recording of c signals has the named signals: no line, used or not, names one at or above c
abbrev pub HasSignals : List Line → ℕ → Type 0
HasSignals lines c = (k : ℕ) → k < length lines → Named c (line lines k)

-- 1 for a line that looks back (codes 8 to 11), 0 for any other
abbrev pub past : Line → ℕ
past (Const v) = 0
past (Signal i) = 0
past (Not a) = 0
past (And a b) = 0
past (Or a b) = 0
past (Next a) = 0
past (Until a b) = 0
past (WeakUntil a b) = 0
past (Previous a) = 1
past (WeakPrevious a) = 1
past (Since a b) = 1
past (WeakSince a b) = 1

-- how many of the first n lines look back, used or not
abbrev pub pasts : (ℕ → Line) → ℕ → ℕ
pasts x zero = 0
pasts x (suc n) = pasts x n + past (x n)

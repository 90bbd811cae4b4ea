-- The ledger of a sheet: its lines and its form, and what each call answers and leaves. It is told from the rules
-- alone and knows nothing of how a sheet is kept; refusals are their numbers.
use Rattle.std.specs.Prelude.{ℕ, ◌-◌, cond, List, [], ◌∷◌, ◌++◌, length, take, Some, None, Option, ◌==◌}
use Rattle.sheet.specs.declared.line.Line.{Line}
use Rattle.sheet.specs.Table.{named_line, operands_of, fits}

pub data Form : Type 0 where
  Drafted Shut : Form

pub record Ledger : Type 0 where
  pub lines : List Line
  pub form : Form

-- the calls by which a sheet changes
pub data Call : Type 0 where
  Write : ℕ → ℕ → ℕ → Call
  Strike Seal Reopen : Call

-- what they answer: the number of the line written, nothing but that it is done, the number of the refusal
pub data Answer : Type 0 where
  Written : ℕ → Answer
  Done : Answer
  Refused : ℕ → Answer

-- a new sheet is the empty draft
abbrev pub start : Ledger
start = record { lines = []; form = Drafted }

-- a refused call leaves the ledger as it was
abbrev pub refused : ℕ → Ledger → Answer × Ledger
refused n l = (Refused n, l)

abbrev pub with_lines : List Line → Ledger → Ledger
with_lines ls l = record { lines = ls; form = l.form }

abbrev pub with_form : Form → Ledger → Ledger
with_form form l = record { lines = l.lines; form = form }

-- 3: 64 lines already; else the line comes last, and its number is the answer
abbrev pub put : Line → Ledger → Answer × Ledger
put x l = cond (length l.lines == 64) (refused 3 l) (Written (length l.lines), with_lines (l.lines ++ (x ∷ [])) l)

-- 1: no line has the code; 2: an operand is against the table
abbrev pub put_named : Option Line → ℕ → ℕ → Ledger → Answer × Ledger
put_named None a b l = refused 1 l
put_named (Some x) a b l = cond (operands_of x (length l.lines) a b) (put x l) (refused 2 l)

-- a line given whole. 2: it names a signal at or above 32, or a line that is not below it
abbrev pub pushed : Ledger → Line → Answer × Ledger
pushed l x = cond (fits (length l.lines) x) (put x l) (refused 2 l)

-- 4: strike or seal with no line
abbrev pub unless_empty : Answer × Ledger → Ledger → Answer × Ledger
unless_empty then l = cond (length l.lines == 0) (refused 4 l) then

-- what a call answers and leaves
abbrev pub fed : Ledger → Call → Answer × Ledger
fed l (Write c a b) = put_named (named_line c a b) a b l
fed l Strike = unless_empty (Done, with_lines (take (length l.lines - 1) l.lines) l) l
fed l Seal = unless_empty (Done, with_form Shut l) l
fed l Reopen = (Done, with_form Drafted l)

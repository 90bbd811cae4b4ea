-- The signed translation of a sheet into a machine, by closed counts: where a line's gates begin is the number of
-- gates of the used lines below it, and so for its variable.
use Rattle.std.specs.Prelude.{◌≡◌, ℕ, zero, suc, ◌+◌, ◌-◌, Bool, true, false, cond, ◌&&◌, ◌||◌, ◌↔◌, List, [], ◌∷◌, ◌++◌, length, ◌==◌}
use Rattle.sheet.specs.declared.line.Line.{Line}
use Rattle.sheet.specs.declared.line.Line.TheVariants.{Const, Signal, Not, And, Or, Next, Until, WeakUntil, Previous, WeakPrevious, Since, WeakSince}
use Rattle.sheet.specs.Table.{line}
use Rattle.meaning.specs.Sheet.{rule_of}
use Rattle.machine.specs.declared.gate.Gate.{Gate}
use Rattle.machine.specs.declared.gate.Gate.TheVariants as gate
use Rattle.machine.specs.declared.gate.Pair.{Pair}
use Rattle.machine.specs.declared.gate.Variable.{Variable}
use Rattle.machine.specs.declared.gate.Variable.TheVariants as variable
use Rattle.machine.specs.Signs.{Sign, plus, minus, opposite, HasSign}
use Rattle.machine.specs.Tables.{Tables, Wired, Bounded}

-- whether a line with the signs `own` hands sign s to line a
abbrev pub hands : Line → (Sign → Bool) → ℕ → Sign → Bool
hands (Const v) own a s = false
hands (Signal i) own a s = false
hands (Not b) own a s = a == b && own (opposite s)
hands (And b c) own a s = (a == b || a == c) && own s
hands (Or b c) own a s = (a == b || a == c) && own s
hands (Next b) own a s = a == b && own s
hands (Until b c) own a s = (a == b || a == c) && own s
hands (WeakUntil b c) own a s = (a == b || a == c) && own s
hands (Previous b) own a s = a == b && own s
hands (WeakPrevious b) own a s = a == b && own s
hands (Since b c) own a s = (a == b || a == c) && own s
hands (WeakSince b c) own a s = (a == b || a == c) && own s

abbrev pub rule_sign : ℕ → ℕ → Sign → Bool
rule_sign r a plus = a == r
rule_sign r a minus = false

-- whether line a has sign s by the m lines from k on, where line r is the rule
abbrev pub signed : (ℕ → Line) → ℕ → ℕ → ℕ → ℕ → Sign → Bool
signed x r k zero a s = rule_sign r a s
signed x r k (suc m) a s = signed x r (suc k) m a s || hands (x k) (signed x r (suc k) m k) a s

-- the sum of the first n counts
abbrev pub total : (ℕ → ℕ) → ℕ → ℕ
total c zero = 0
total c (suc n) = total c n + c n

-- the first n lists, one after the other
abbrev pub joined : {A : Type 0} → (ℕ → List A) → ℕ → List A
joined l zero = []
joined l (suc n) = joined l n ++ l n

-- how many gates a used line makes
abbrev pub size : Line → ℕ
size (Const v) = 1
size (Signal i) = 1
size (Not a) = 1
size (And a b) = 1
size (Or a b) = 1
size (Next a) = 1
size (Until a b) = 1
size (WeakUntil a b) = 1
size (Previous a) = 1
size (WeakPrevious a) = 1
size (Since a b) = 3
size (WeakSince a b) = 3

-- how many variables
abbrev pub memory : Line → ℕ
memory (Const v) = 0
memory (Signal i) = 0
memory (Not a) = 0
memory (And a b) = 0
memory (Or a b) = 0
memory (Next a) = 1
memory (Until a b) = 1
memory (WeakUntil a b) = 1
memory (Previous a) = 1
memory (WeakPrevious a) = 1
memory (Since a b) = 1
memory (WeakSince a b) = 1

-- a line's gates: place a is the gate of line a, first the number of the line's first gate, name that of its variable.
-- A since is the or of right's gate with the and of left's gate with the variable.
abbrev pub gates_of : (ℕ → ℕ) → ℕ → ℕ → Line → List Gate
gates_of place first name (Const v) = gate.Const v ∷ []
gates_of place first name (Signal i) = gate.Signal i ∷ []
gates_of place first name (Not a) = gate.Not (place a) ∷ []
gates_of place first name (And a b) = gate.And (place a) (place b) ∷ []
gates_of place first name (Or a b) = gate.Or (place a) (place b) ∷ []
gates_of place first name (Next a) = gate.Var name ∷ []
gates_of place first name (Until a b) = gate.Var name ∷ []
gates_of place first name (WeakUntil a b) = gate.Var name ∷ []
gates_of place first name (Previous a) = gate.Var name ∷ []
gates_of place first name (WeakPrevious a) = gate.Var name ∷ []
gates_of place first name (Since a b) = gate.Var name ∷ gate.And (place a) first ∷ gate.Or (place b) (first + 1) ∷ []
gates_of place first name (WeakSince a b) = gate.Var name ∷ gate.And (place a) first ∷ gate.Or (place b) (first + 1) ∷ []

-- a line's variable: own is the line's own gate
abbrev pub variables_of : (ℕ → ℕ) → ℕ → Line → List Variable
variables_of place own (Const v) = []
variables_of place own (Signal i) = []
variables_of place own (Not a) = []
variables_of place own (And a b) = []
variables_of place own (Or a b) = []
variables_of place own (Next a) = variable.Next (place a) ∷ []
variables_of place own (Until a b) = variable.Until (place a) (place b) ∷ []
variables_of place own (WeakUntil a b) = variable.Until (place a) (place b) ∷ []
variables_of place own (Previous a) = variable.Back (place a) false ∷ []
variables_of place own (WeakPrevious a) = variable.Back (place a) true ∷ []
variables_of place own (Since a b) = variable.Back own false ∷ []
variables_of place own (WeakSince a b) = variable.Back own true ∷ []

abbrev pub one_pair : Bool → ℕ → ℕ → List Pair
one_pair b p q = cond b (record { from = p; to = q } ∷ []) []

-- a line's pair: an until with plus from its own gate to right's, a weak until with minus from left's gate to its own
abbrev pub pairs_of : (ℕ → ℕ) → ℕ → (Sign → Bool) → Line → List Pair
pairs_of place own signs (Const v) = []
pairs_of place own signs (Signal i) = []
pairs_of place own signs (Not a) = []
pairs_of place own signs (And a b) = []
pairs_of place own signs (Or a b) = []
pairs_of place own signs (Next a) = []
pairs_of place own signs (Until a b) = one_pair (signs plus) own (place b)
pairs_of place own signs (WeakUntil a b) = one_pair (signs minus) (place a) own
pairs_of place own signs (Previous a) = []
pairs_of place own signs (WeakPrevious a) = []
pairs_of place own signs (Since a b) = []
pairs_of place own signs (WeakSince a b) = []

-- x are the lines, n their number, and the rule's is r
module _ (x : ℕ → Line) (n r : ℕ) where
  abbrev pub has : ℕ → Sign → Bool
  has k s = signed x r 0 n k s

  -- a line with no sign is unused, and leaves no trace
  abbrev pub used : ℕ → Bool
  used k = has k plus || has k minus

  abbrev pub made_gates : ℕ → ℕ
  made_gates k = cond (used k) (size (x k)) 0

  abbrev pub made_variables : ℕ → ℕ
  made_variables k = cond (used k) (memory (x k)) 0

  -- the number of line k's first gate, of its own gate, which is its last, and of its variable
  abbrev pub first : ℕ → ℕ
  first k = total made_gates k

  abbrev pub place : ℕ → ℕ
  place k = first k + (size (x k) - 1)

  abbrev pub name : ℕ → ℕ
  name k = total made_variables k

  -- what line k puts into each table
  abbrev pub gate_lists : ℕ → List Gate
  gate_lists k = cond (used k) (gates_of place (first k) (name k) (x k)) []

  abbrev pub variable_lists : ℕ → List Variable
  variable_lists k = cond (used k) (variables_of place (place k) (x k)) []

  abbrev pub pair_lists : ℕ → List Pair
  pair_lists k = pairs_of place (place k) (has k) (x k)

  abbrev pub translation : Tables
  translation = record { gates = joined gate_lists n; variables = joined variable_lists n; pairs = joined pair_lists n; root = place r }

-- the machine of a sheet
abbrev pub translate : List Line → Tables
translate lines = translation (line lines) (length lines) (rule_of lines)

-- The test for signs is right: it says which signs each line has.
abbrev pub SignsAre : List Line → Type 0
SignsAre lines =
    (k : ℕ) (s : Sign) → (has (line lines) (length lines) (rule_of lines) k s ≡ true) ↔ HasSign (line lines) (length lines) (rule_of lines) k s

-- What is known of a sheet's translation: its signs are those of the relation, its tables name what is there, and
-- they have room in the machine place.
pub record Sound (lines : List Line) : Type 0 where
  pub signs : SignsAre lines
  pub wired : Wired (translate lines)
  pub bounded : Bounded (translate lines)

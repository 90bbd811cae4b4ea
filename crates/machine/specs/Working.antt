-- What a machine holds while it is filled.
use Rattle.std.specs.Prelude.{ℕ, ◌+◌, ◌-◌, ◌*◌, ◌≡◌, ◌≤◌, Bool, false, cond, ◌||◌, List, [], ◌++◌, length, slice_index, slice_index_or, slice_set}
use Rattle.sheet.specs.declared.line.Line.{Line}
use Rattle.machine.specs.declared.gate.Gate.{Gate}
use Rattle.machine.specs.declared.gate.Pair.{Pair}
use Rattle.machine.specs.declared.gate.Variable.{Variable}
use Rattle.machine.specs.declared.signs.Signs.{Signs}
use Rattle.machine.specs.declared.work.Work.{Work}
use Rattle.machine.specs.Signs.{Sign, plus, minus}
use Rattle.machine.specs.Translation.{size, gates_of, variables_of, pairs_of}

-- nothing is there yet, but room for the places of 64 lines
pub record IsEmpty (w : Work) : Type 0 where
  pub gates : w.gates ≡ []
  pub variables : w.variables ≡ []
  pub pairs : w.pairs ≡ []
  pub room : length w.places ≡ 64

-- more at the end of each table
abbrev pub extended : List Gate → List Variable → List Pair → Work → Work
extended gs vs ps w = record { gates = w.gates ++ gs; variables = w.variables ++ vs; pairs = w.pairs ++ ps; places = w.places }

-- the gate of line a
abbrev pub place_in : Work → ℕ → ℕ
place_in w a = slice_index w.places a

-- n lines make at most 3 n gates, n variables and n pairs
pub record Room (n : ℕ) (w : Work) : Type 0 where
  pub gates : length w.gates ≤ 3 * n
  pub variables : length w.variables ≤ n
  pub pairs : length w.pairs ≤ n

-- and that is room for another line of 64
abbrev pub HasRoom : Work → Type 0
HasRoom w = Room 63 w

-- which signs a line has
abbrev pub told : Signs → Sign → Bool
told s plus = s.plus
told s minus = s.minus

abbrev pub unsigned : Signs
unsigned = record { plus = false; minus = false }

abbrev pub is_used : (Sign → Bool) → Bool
is_used signs = signs plus || signs minus

-- the signs of line a in a list
abbrev pub sign_in : List Signs → ℕ → Sign → Bool
sign_in xs a s = told (slice_index_or xs a unsigned) s

-- the gate of a line that comes next, whether it makes gates or not
abbrev pub own_place : Line → Work → ℕ
own_place y w = length w.gates + (size y - 1)

-- what a line with these signs puts into the tables
abbrev pub with_tables : (Sign → Bool) → Line → Work → Work
with_tables signs y w =
    extended
    (cond (is_used signs) (gates_of (place_in w) (length w.gates) (length w.variables) y) [])
    (cond (is_used signs) (variables_of (place_in w) (own_place y w) y) [])
    (pairs_of (place_in w) (own_place y w) signs y)
    w

-- and with its place, when it is line k
abbrev pub with_line : ℕ → (Sign → Bool) → Line → Work → Work
with_line k signs y w = record (with_tables signs y w) { places = slice_set w.places k (own_place y w) }

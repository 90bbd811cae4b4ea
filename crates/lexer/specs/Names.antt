-- The names: what a name is, which names a names line has, and when it is good.
use Rattle.std.specs.Prelude.{◌≡◌, ℕ, ◌<◌, ◌≤◌, List, [], length, take, Some, None, Ok, Err, Option, Result, ◌≢◌, slice_index, slice_index_or}
use Rattle.lexer.specs.declared.names.Names.{Names}
use Rattle.lexer.specs.declared.names.NamesRefusal.{NamesRefusal}
use Rattle.lexer.specs.declared.names.NamesRefusal.TheVariants.{Malformed}
use Rattle.lexer.specs.Parts.{parts}

-- a letter of a name
abbrev pub Letter : ℕ → Type 0
Letter b = (97 ≤ b) × (b ≤ 122)

-- a name: 1 to 8 letters
pub record IsName (n : List ℕ) : Type 0 where
  pub some : 0 < length n
  pub short : length n ≤ 8
  pub letters : (k : ℕ) → k < length n → Letter (slice_index n k)

-- the places from `at` up to `end` have the letters that stand from `at` on, and no more follow
pub record Letters (text : List ℕ) (at end : ℕ) : Type 0 where
  pub from : at ≤ end
  pub within : end ≤ length text
  pub all : (k : ℕ) → at ≤ k → k < end → Letter (slice_index text k)
  pub stops : end < length text → Letter (slice_index text end) → ⊥

-- what the spaces of a line part
abbrev pub spaced : List ℕ → List (List ℕ)
spaced line = parts 32 line

-- its names by number: no more than 32 are looked at
abbrev pub names_of : List ℕ → List (List ℕ)
names_of line = take 32 (spaced line)

abbrev pub AllNames : List (List ℕ) → Type 0
AllNames ns = (k : ℕ) → k < length ns → IsName (slice_index_or ns k [])

abbrev pub AllDifferent : List (List ℕ) → Type 0
AllDifferent ns = (j k : ℕ) → j < k → k < length ns → slice_index_or ns j [] ≢ slice_index_or ns k []

-- a good line: 1 to 32 different names, parted by one space
pub record Good (line : List ℕ) : Type 0 where
  pub few : length (spaced line) ≤ 32
  pub names : AllNames (spaced line)
  pub different : AllDifferent (spaced line)

-- the line that a view is of, and its names
abbrev pub line_of : Names → List ℕ
line_of n = n.bytes.now

abbrev pub known : Names → List (List ℕ)
known n = names_of (line_of n)

-- a view is had of a good line alone
abbrev pub Opened : List ℕ → Result Names NamesRefusal → Type 0
Opened line (Ok n) = (line_of n ≡ line) × Good line
Opened line (Err e) = Good line → ⊥

-- no number below k has the name
abbrev pub NoneBelow : List (List ℕ) → List ℕ → ℕ → Type 0
NoneBelow ns name k = (j : ℕ) → j < k → slice_index_or ns j [] ≢ name

-- k is the first number that has the name
abbrev pub IsFirst : List (List ℕ) → List ℕ → ℕ → Type 0
IsFirst ns name k = (k < length ns) × (slice_index_or ns k [] ≡ name) × NoneBelow ns name k

-- the first number that has the name, or none
abbrev pub Finds : List (List ℕ) → List ℕ → Option ℕ → Type 0
Finds ns name None = NoneBelow ns name (length ns)
Finds ns name (Some k) = IsFirst ns name k

-- the number of the refusal among the refused calls
abbrev pub names_number : NamesRefusal → ℕ
names_number Malformed = 18

-- Rows packed from the cells, one bit for each variable.
use Rattle.std.specs.Prelude.{◌≡◌, ℕ, ◌^◌, ◌<◌, ◌≤◌, true, ◌↔◌, List, length, slice_index}
use Rattle.recording.specs.Kind.{Kind}
use Rattle.recording.specs.Tape.{bit}
use Rattle.sheet.specs.declared.line.Line.{Line}
use Rattle.sheet.specs.Table.{line}
use Rattle.meaning.specs.Cells.{column}
use Rattle.meaning.specs.Sheet.{Values, rule_of}
use Rattle.machine.specs.declared.signs.Signs.{Signs}
use Rattle.laws.specs.Laws.{shown}
use Rattle.machine.specs.Signs.{Sign}
use Rattle.machine.specs.Translation.{has, used, memory, name}
use Rattle.machine.specs.Working.{sign_in}

-- these are the signs of the lines
abbrev pub SignsOf : List Line → List Signs → Type 0
SignsOf lines signs = (a : ℕ) (s : Sign) → sign_in signs a s ≡ has (line lines) (length lines) (rule_of lines) a s

-- how many variables the first k lines have
abbrev pub names : List Line → ℕ → ℕ
names lines k = name (line lines) (length lines) (rule_of lines) k

-- of the first n lines, each that is used and has a variable is shown by its bit of the row at sample t
abbrev pub RowShows : (K : Kind) → List Line → (ℕ → Values K) → ℕ → ℕ → ℕ → Type 0
RowShows K lines f n t row =
    (k : ℕ) → k < n → used (line lines) (length lines) (rule_of lines) k ≡ true → memory (line lines k) ≡ 1
    → (bit row (names lines k) ≡ true) ↔ (shown K (line lines k) (f k) t ≡ K.Yes)

module _ (K : Kind) {V : Type 0} (means : V → K.Value) (lines : List Line) (cells : List V) where
  -- the values in the cells
  abbrev pub in_cells : V → ℕ → Values K
  in_cells d k = column means cells (length lines) k d

  -- a row that shows the first n lines at sample t and has no other bit
  pub record Packed (n t row : ℕ) : Type 0 where
    pub shows : (d : V) → RowShows K lines (in_cells d) n t row
    pub below : row < 2 ^ names lines n

  -- the first n rows show the lines at their samples, and the others are as before
  pub record RowsPacked (before after : List ℕ) (n : ℕ) : Type 0 where
    pub rows : (t : ℕ) → t < n → Packed (length lines) t (slice_index after t)
    pub further : (t : ℕ) → n ≤ t → slice_index after t ≡ slice_index before t

-- The cells as a table, for the evaluator's inner functions: cell t * width + k is line k at sample t.
use Rattle.std.specs.Prelude.{◌≡◌, ℕ, ◌+◌, ◌-◌, ◌*◌, ◌<◌, ◌≤◌, List, length, ◌≢◌, slice_index_or}

-- there is a cell for each line below width at each sample below n
abbrev pub Room : {V : Type 0} → List V → ℕ → ℕ → Type 0
Room cells width n = (t k : ℕ) → t < n → k < width → t * width + k < length cells

-- there is a cell for each line below width at each sample below n, and k is one of the lines
pub record HasColumn {V : Type 0} (width n k : ℕ) (cells : List V) : Type 0 where
  pub room : Room cells width n
  pub inside : k < width

module _ {V M : Type 0} (means : V → M) where
  -- what line k means at each sample; d stands for the cells that are not there
  abbrev pub column : List V → ℕ → ℕ → V → ℕ → M
  column cells width k d t = means (slice_index_or cells (t * width + k) d)

  -- line k means y at the samples from lo to hi, and all other cells are as before
  pub record Fills (width k : ℕ) (before : List V) (y : V → ℕ → M) (lo hi : ℕ) (after : List V) : Type 0 where
    pub values : (d : V) (t : ℕ) → lo ≤ t → t < hi → column after width k d t ≡ y d t
    pub others : (d : V) (i : ℕ) → ((t : ℕ) → lo ≤ t → t < hi → i ≢ t * width + k) → slice_index_or after i d ≡ slice_index_or before i d

-- the first m lines at the samples from lo to hi are as they were v samples before, and all other cells are as before
pub record Repeated {V : Type 0} (width m v lo hi : ℕ) (before after : List V) : Type 0 where
  pub copies : (d : V) (t a : ℕ) → lo ≤ t → t < hi → a < m → slice_index_or after (t * width + a) d ≡ slice_index_or before ((t - v) * width + a) d
  pub others : (d : V) (i : ℕ) → ((t a : ℕ) → lo ≤ t → t < hi → a < m → i ≢ t * width + a) → slice_index_or after i d ≡ slice_index_or before i d

-- the cells of the lines below m at sample t
pub record IsRow {V : Type 0} (width m t : ℕ) (cells row : List V) : Type 0 where
  pub long : length row ≡ m
  pub values : (d : V) (a : ℕ) → a < m → slice_index_or row a d ≡ slice_index_or cells (t * width + a) d

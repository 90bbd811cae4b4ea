-- The lines of a bench file: what each has to be, and what it says.
use Rattle.std.specs.Prelude.{◌≡◌, ℕ, ◌+◌, ◌-◌, ◌*◌, ◌<◌, ◌≤◌, cond, ◌⊎◌, List, [], ◌∷◌, length, drop, codes, fold, ◌==◌, slice_index, slice_index_or}
use Rattle.lexer.specs.Names.{spaced}

-- what stands between the spaces of a line, by number
abbrev pub field : List ℕ → ℕ → List ℕ
field l k = slice_index_or (spaced l) k []

-- the title
abbrev pub title : List ℕ
title = codes "stem cycle rule"

-- one to three digits, and their value in base ten; zeros may lead
pub record IsNumeral (ds : List ℕ) : Type 0 where
  pub some : 0 < length ds
  pub few : length ds ≤ 3
  pub digits : (k : ℕ) → k < length ds → (48 ≤ slice_index ds k) × (slice_index ds k ≤ 57)

abbrev pub more : ℕ → ℕ → ℕ
more n d = n * 10 + (d - 48)

abbrev pub value : List ℕ → ℕ
value ds = fold more 0 ds

-- the header: stem and cycle, each followed by one space, and then the rule, which is all that follows
pub record IsHeader (l : List ℕ) : Type 0 where
  pub spaces : 2 < length (spaced l)
  pub stem : IsNumeral (field l 0)
  pub cycle : IsNumeral (field l 1)

abbrev pub stem_of : List ℕ → ℕ
stem_of l = value (field l 0)

abbrev pub cycle_of : List ℕ → ℕ
cycle_of l = value (field l 1)

abbrev pub rule_of : List ℕ → List ℕ
rule_of l = drop (length (field l 0) + length (field l 1) + 2) l

-- a mark: 0, 1 or ?
abbrev pub IsMark : List ℕ → Type 0
IsMark p = (p ≡ 48 ∷ []) ⊎ ((p ≡ 49 ∷ []) ⊎ (p ≡ 63 ∷ []))

-- a sample: a mark for each of c signals, parted by one space
pub record IsSample (c : ℕ) (l : List ℕ) : Type 0 where
  pub signals : length (spaced l) ≡ c
  pub marks : (k : ℕ) → k < c → IsMark (field l k)

-- the signals that have the mark m, signal i as bit i
abbrev pub marked : ℕ → List ℕ → ℕ
marked m p = cond (slice_index p 0 == m) 1 0

abbrev pub bits : ℕ → List (List ℕ) → ℕ
bits m [] = 0
bits m (p ∷ ps) = marked m p + 2 * bits m ps

-- the signals that are 1, and those that are lost
abbrev pub mask_of : List ℕ → ℕ
mask_of l = bits 49 (spaced l)

abbrev pub lost_of : List ℕ → ℕ
lost_of l = bits 63 (spaced l)

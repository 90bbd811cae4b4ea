-- A text over the front of a buffer.
use Rattle.std.specs.Prelude.{ℕ, min, List, ◌++◌, length, take, drop}

-- the first n elements of a list in the place of those that were there
abbrev pub over_first : ℕ → List ℕ → List ℕ → List ℕ
over_first n text before = take n text ++ drop n before

-- a text in the place of what was there, as far as there is room
abbrev pub over : List ℕ → List ℕ → List ℕ
over text before = over_first (min (length text) (length before)) text before

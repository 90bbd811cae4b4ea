-- What stands between the separators of a row of bytes: always one part more than there are separators.
use Rattle.std.specs.Prelude.{◌≡◌, ℕ, ◌<◌, ◌≤◌, List, [], ◌∷◌, ◌++◌, length, Some, None, Option, ◌==◌, slice_index_or}
use Rattle.std.specs.Borrow.{Bor}
use Rattle.std.specs.List.{slice_split}
use Rattle.lexer.specs.declared.parts.Parts.{Parts}

-- the bytes between the separators
abbrev pub parts : ℕ → List ℕ → List (List ℕ)
parts s bytes = slice_split (λ b. b == s) bytes

-- the parts of what follows the first separator, if there is one
abbrev pub rest_parts : ℕ → Option (Bor (List ℕ)) → List (List ℕ)
rest_parts s None = []
rest_parts s (Some r) = parts s r.now

-- the parts that are still to come
abbrev pub parts_left : Parts → List (List ℕ)
parts_left p = rest_parts p.separator p.rest

-- the bytes are the first part and, where something follows it, a separator and the rest
abbrev pub Joins : ℕ → List ℕ → List ℕ → Option (Bor (List ℕ)) → Type 0
Joins s bytes first None = bytes ≡ first
Joins s bytes first (Some r) = bytes ≡ first ++ s ∷ r.now

-- the item of number k, if there are so many
abbrev pub Nth : List (List ℕ) → ℕ → Option (Bor (List ℕ)) → Type 0
Nth xs k None = length xs ≤ k
Nth xs k (Some x) = (k < length xs) × (x.now ≡ slice_index_or xs k [])

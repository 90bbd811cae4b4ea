-- Values and rows as text.
use Rattle.std.specs.Prelude.{ℕ, zero, suc, List, [], ◌∷◌, ◌++◌, take, drop, decimal}
use Rattle.recording.specs.declared.truth.Ternary.{Ternary}
use Rattle.recording.specs.Printed.{truth_text}

-- the texts of items, one after the other
abbrev pub each : {X : Type 0} → (X → List ℕ) → List X → List ℕ
each text [] = []
each text (x ∷ xs) = text x ++ each text xs

module _ {V : Type 0} (three : V → Ternary) where
  -- values that follow another, each after a space
  abbrev pub more_text : List V → List ℕ
  more_text = each (λ x. 32 ∷ truth_text (three x))

  -- the values at a sample, parted by one space
  abbrev pub row_text : List V → List ℕ
  row_text [] = []
  row_text (x ∷ xs) = truth_text (three x) ++ more_text xs

  -- so many samples of so many lines, each with its line end
  abbrev pub rows_text : ℕ → ℕ → List V → List ℕ
  rows_text zero lines xs = []
  rows_text (suc n) lines xs = row_text (take lines xs) ++ (10 ∷ rows_text n lines (drop lines xs))

-- numbers in base ten, each with its line end
abbrev pub numbers_text : List ℕ → List ℕ
numbers_text = each (λ n. decimal n ++ (10 ∷ []))

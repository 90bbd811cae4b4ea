-- One row more of a table.
use Rattle.std.proofs.Common.{◌≡◌, ℕ, suc, ◌+◌, ◌<◌, List, [], ◌∷◌, ◌++◌, length, get_or, drop, sym, ap, ◌∙◌, append_assoc, add-one, drop-cons}
use Rattle.tables.specs.Text.{rows_text}

pub rows_more : {X : Type 0} (row : ℕ → X → List ℕ) (xs : List X) (k : ℕ) (x : X) (bs all : List ℕ) → k < length xs → get_or xs k x ≡ x
    → bs ++ rows_text row k (drop k xs) ≡ all → (bs ++ (row k x ++ (10 ∷ []))) ++ rows_text row (k + 1) (drop (k + 1) xs) ≡ all
rows_more row xs k x bs all h e whole =
    append_assoc bs (row k x ++ (10 ∷ [])) _
    ∙ ap (λ r. bs ++ r) (append_assoc (row k x) (10 ∷ []) _ ∙ ap (λ j. row k x ++ (10 ∷ rows_text row j (drop j xs))) (add-one k))
    ∙ ap (λ y. bs ++ (row k y ++ (10 ∷ rows_text row (suc k) (drop (suc k) xs)))) (sym e)
    ∙ ap (λ r. bs ++ rows_text row k r) (sym (drop-cons xs k x h))
    ∙ whole

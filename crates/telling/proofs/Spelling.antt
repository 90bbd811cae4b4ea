-- One item more of a text, one row more of the samples.
use Rattle.std.proofs.Common.{◌≡◌, ℕ, suc, ◌+◌, ◌<◌, List, [], ◌∷◌, ◌++◌, length, get_or, take, drop, sym, ap, ◌∙◌, append_assoc, append-nil, add-one, drop-cons}
use lib.Seq.{drop-length}
use Rattle.recording.specs.declared.truth.Ternary.{Ternary}
use Rattle.telling.specs.Truths.{each, row_text, rows_text}

module _ {X : Type 0} (text : X → List ℕ) where
  pub each_more : (xs : List X) (k : ℕ) (x d : X) (bs all : List ℕ) → k < length xs → get_or xs k d ≡ x
      → bs ++ each text (drop k xs) ≡ all → (bs ++ text x) ++ each text (drop (k + 1) xs) ≡ all
  each_more xs k x d bs all h e whole =
      append_assoc bs (text x) _
      ∙ ap (λ j. bs ++ (text x ++ each text (drop j xs))) (add-one k)
      ∙ ap (λ y. bs ++ (text y ++ each text (drop (suc k) xs))) (sym e)
      ∙ ap (λ r. bs ++ each text r) (sym (drop-cons xs k d h))
      ∙ whole

  pub each_done : (xs : List X) (k : ℕ) (bs all : List ℕ) → k ≡ length xs → bs ++ each text (drop k xs) ≡ all → bs ≡ all
  each_done xs k bs all e whole =
      sym (append-nil bs)
      ∙ ap (λ r. bs ++ each text r) (sym (ap (λ j. drop j xs) e ∙ drop-length xs))
      ∙ whole

module _ {V : Type 0} (three : V → Ternary) where
  -- n is how many samples are left before this one, m after it
  pub sample_more : (lines n m : ℕ) (xs row more : List V) (bs all : List ℕ) → row ≡ take lines xs → more ≡ drop lines xs → n ≡ suc m
      → bs ++ rows_text three n lines xs ≡ all → (bs ++ (row_text three row ++ (10 ∷ []))) ++ rows_text three m lines more ≡ all
  sample_more lines n m xs row more bs all is left e whole =
      append_assoc bs (row_text three row ++ (10 ∷ [])) _
      ∙ ap (λ r. bs ++ r) (append_assoc (row_text three row) (10 ∷ []) _)
      ∙ (λ i. bs ++ (row_text three (is i) ++ (10 ∷ rows_text three m lines (left i))))
      ∙ ap (λ k. bs ++ rows_text three k lines xs) (sym e)
      ∙ whole

  pub samples_done : (lines n : ℕ) (xs : List V) (bs all : List ℕ) → n ≡ 0 → bs ++ rows_text three n lines xs ≡ all → bs ≡ all
  samples_done lines n xs bs all e whole = sym (append-nil bs) ∙ ap (λ k. bs ++ rows_text three k lines xs) (sym e) ∙ whole

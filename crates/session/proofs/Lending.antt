-- The first so many of a list, or all.
use Rattle.std.proofs.Common.{◌≡◌, ℕ, min, List, length, take, drop, ap, ◌∙◌}
use Rattle.std.proofs.lemmas.List.{take_min, drop_min}

module _ {X : Type 0} (xs : List X) (lent n : ℕ) (is : n ≡ min lent (length xs)) where
  pub take_lent : take n xs ≡ take lent xs
  take_lent = ap (λ k. take k xs) is ∙ take_min lent xs

  pub drop_lent : drop n xs ≡ drop lent xs
  drop_lent = ap (λ k. drop k xs) is ∙ drop_min lent xs

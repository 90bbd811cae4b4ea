-- The item of a number in a list of meanings.
use Rattle.std.proofs.Common.{◌≡◌, ℕ, zero, suc, ◌<◌, ◌≤◌, List, [], ◌∷◌, map, length, get_or, subst, not-suc-le-zero, arith}
use Rattle.run.specs.Story.{On}

module _ {X Y : Type 0} (f : X → Y) (P : Y → Type 0) (Q : Type 0) where
  pub on_item : (xs : List X) (i : ℕ) (x : X) → i < length xs → x ≡ get_or xs i x → P (f x) → On (map f xs) i P Q
  on_item [] i x h e p = absurd (not-suc-le-zero h)
  on_item (y ∷ xs) zero x h e p = subst (λ (z : X). P (f z)) e p
  on_item (y ∷ xs) (suc i) x h e p = on_item xs i x (omega arith) e p

  pub on_none : (xs : List X) (i : ℕ) → length xs ≤ i → Q → On (map f xs) i P Q
  on_none [] i h q = q
  on_none (y ∷ xs) zero h q = absurd (not-suc-le-zero h)
  on_none (y ∷ xs) (suc i) h q = on_none xs i (omega arith) q

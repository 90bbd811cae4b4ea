-- What no and yes do in the operations of a kind.
use Rattle.std.proofs.Common.{◌≡◌, sym, ap, ◌∙◌}
use Rattle.recording.specs.Kind.{Kind}
use Rattle.meaning.proofs.Lattice.{at_anti, and_left, no_at, at_yes}

module _ (B : Kind) where
  pub no_and : (q : B.Value) → B.And B.No q ≡ B.No
  no_and q = at_anti B (and_left B B.No q) (no_at B (B.And B.No q))

  pub and_no : (q : B.Value) → B.And q B.No ≡ B.No
  and_no q = B.and_comm q B.No ∙ no_and q

  pub yes_and : (q : B.Value) → B.And B.Yes q ≡ q
  yes_and q = B.and_comm B.Yes q ∙ B.and_yes q

  pub or_yes : (q : B.Value) → B.Or q B.Yes ≡ B.Yes
  or_yes q = at_yes B q

  pub yes_or : (q : B.Value) → B.Or B.Yes q ≡ B.Yes
  yes_or q = B.or_comm B.Yes q ∙ or_yes q

  pub no_or : (q : B.Value) → B.Or B.No q ≡ q
  no_or q = no_at B q

  -- not yes = not (yes or not no) = not yes and no
  pub not_yes : B.Not B.Yes ≡ B.No
  not_yes =
      ap B.Not (sym (yes_or (B.Not B.No))) ∙ B.not_or B.Yes (B.Not B.No) ∙ ap (B.And (B.Not B.Yes)) (B.not_not B.No)
      ∙ and_no (B.Not B.Yes)

  pub not_no : B.Not B.No ≡ B.Yes
  not_no = ap B.Not (sym not_yes) ∙ B.not_not B.Yes

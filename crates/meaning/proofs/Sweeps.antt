-- Steps of the passes over columns.
use Rattle.std.proofs.Common.{◌≡◌, ℕ, suc, ◌+◌, ◌-◌, ◌<◌, ◌≤◌, sym, ap, ◌∙◌, add-one, arith}
use Rattle.std.proofs.lemmas.Bool.Decides.{nat_tests}
use Rattle.recording.specs.Kind.{Kind}
use Rattle.meaning.specs.Sheet.{Values, before}
use Rattle.meaning.specs.Judging.{pass}
use Rattle.meaning.specs.Columns.{following, carried}

pub following_below : (back n t : ℕ) → back < n → following back n t < n
following_below back n t h = grind (arith, nat_tests)

module _ (K : Kind) where
  -- one step down
  pub pass_down : (l r : Values K) (n t : ℕ) (z : K.Value) → 0 < t → t ≤ n
      → K.Or (r (t - 1)) (K.And (l (t - 1)) (pass K l r t (n - t) z)) ≡ pass K l r (t - 1) (n - (t - 1)) z
  pass_down l r n t z h₁ h₂ =
      let a : n - (t - 1) ≡ suc (n - t) = omega arith in
      let b : suc (t - 1) ≡ t = omega arith in
      ap (λ s. K.Or (r (t - 1)) (K.And (l (t - 1)) (pass K l r s (n - t) z))) (sym b)
      ∙ ap (λ m. pass K l r (t - 1) m z) (sym a)

  pub pass_none : (l r : Values K) (n : ℕ) (z : K.Value) → z ≡ pass K l r n (n - n) z
  pass_none l r n z = let a : n - n ≡ 0 = omega arith in ap (λ m. pass K l r n m z) (sym a)

  pub carried_next : (l r : Values K) (z : K.Value) (t : ℕ) → carried K l r z (suc t) ≡ carried K l r z (t + 1)
  carried_next l r z t = ap (carried K l r z) (sym (add-one t))

  pub before_next : (l : Values K) (z : K.Value) (t : ℕ) → l t ≡ before K z l (t + 1)
  before_next l z t = ap (before K z l) (sym (add-one t))

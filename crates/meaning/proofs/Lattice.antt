-- The order of a truth kind.
use Rattle.std.proofs.Common.{◌≡◌, sym, ap, ◌∙◌}
use Rattle.recording.specs.Kind.{Kind, AtMost}

module _ (K : Kind) where
  pub or_idem : (p : K.Value) → K.Or p p ≡ p
  or_idem p = ap (K.Or p) (sym (K.and_absorbs p p)) ∙ K.or_absorbs p (K.Or p p)

  pub at_refl : (p : K.Value) → AtMost K p p
  at_refl p = or_idem p

  pub at_eq : {p q : K.Value} → p ≡ q → AtMost K p q
  at_eq {p} {q} e = rw e (or_idem q)

  pub at_trans : {p q r : K.Value} → AtMost K p q → AtMost K q r → AtMost K p r
  at_trans {p} {q} {r} h k = ap (K.Or p) (sym k) ∙ sym (K.or_assoc p q r) ∙ ap (λ x. K.Or x r) h ∙ k

  pub at_anti : {p q : K.Value} → AtMost K p q → AtMost K q p → p ≡ q
  at_anti {p} {q} h k = sym k ∙ K.or_comm q p ∙ h

  pub and_left : (p q : K.Value) → AtMost K (K.And p q) p
  and_left p q = K.or_comm (K.And p q) p ∙ K.or_absorbs p q

  pub and_right : (p q : K.Value) → AtMost K (K.And p q) q
  and_right p q = ap (λ x. K.Or x q) (K.and_comm p q) ∙ and_left q p

  pub at_and : {p q r : K.Value} → AtMost K r p → AtMost K r q → AtMost K r (K.And p q)
  at_and {p} {q} {r} h k = K.or_over_and r p q ∙ ap (λ x. K.And x (K.Or r q)) h ∙ ap (K.And p) k

  pub or_left : (p q : K.Value) → AtMost K p (K.Or p q)
  or_left p q = sym (K.or_assoc p p q) ∙ ap (λ x. K.Or x q) (or_idem p)

  pub or_right : (p q : K.Value) → AtMost K q (K.Or p q)
  or_right p q = ap (K.Or q) (K.or_comm p q) ∙ or_left q p ∙ K.or_comm q p

  pub or_at : {p q r : K.Value} → AtMost K p r → AtMost K q r → AtMost K (K.Or p q) r
  or_at {p} {q} {r} h k = K.or_assoc p q r ∙ ap (K.Or p) k ∙ h

  pub no_at : (p : K.Value) → AtMost K K.No p
  no_at p = K.or_comm K.No p ∙ K.or_no p

  pub at_yes : (p : K.Value) → AtMost K p K.Yes
  at_yes p = K.or_comm p K.Yes ∙ ap (K.Or K.Yes) (sym (K.and_yes p) ∙ K.and_comm p K.Yes) ∙ K.or_absorbs K.Yes p

  pub and_mono : {p q r s : K.Value} → AtMost K p r → AtMost K q s → AtMost K (K.And p q) (K.And r s)
  and_mono {p} {q} h k = at_and (at_trans (and_left p q) h) (at_trans (and_right p q) k)

  pub or_mono : {p q r s : K.Value} → AtMost K p r → AtMost K q s → AtMost K (K.Or p q) (K.Or r s)
  or_mono {p} {q} {r} {s} h k = or_at (at_trans h (or_left r s)) (at_trans k (or_right r s))

  -- x ↦ c or (d and x) twice is the same as once
  pub twice : (c d x : K.Value) → K.Or c (K.And d (K.Or c (K.And d x))) ≡ K.Or c (K.And d x)
  twice c d x =
      at_anti
      (or_at (or_left c (K.And d x)) (and_right d (K.Or c (K.And d x))))
      (or_mono (at_refl c) (at_and (and_left d x) (or_right c (K.And d x))))

  -- one more step of c or (d and x)
  pub step_more : (r l c d x : K.Value)
      → K.Or r (K.And l (K.Or c (K.And d x))) ≡ K.Or (K.Or r (K.And l c)) (K.And (K.And l d) x)
  step_more r l c d x =
      ap (K.Or r) (K.and_over_or l c (K.And d x)) ∙ sym (K.or_assoc r (K.And l c) (K.And l (K.And d x)))
      ∙ ap (K.Or (K.Or r (K.And l c))) (sym (K.and_assoc l d x))

-- A truth kind: its values, among them no and yes, the operations and, or, not, and their laws.
use Rattle.std.specs.Prelude.{◌≡◌, Bool, true, ◌⊎◌, ◌↔◌}

-- And and or are each associative and commutative, absorb each other and distribute over each other; yes is neutral
-- for and, no for or; not twice gives the value back, and the not of an or is the and of the nots.
pub record Kind : Type 1 where
  pub Value : Type 0
  pub No : Value
  pub Yes : Value
  pub And : Value → Value → Value
  pub Or : Value → Value → Value
  pub Not : Value → Value
  pub and_assoc : (p q r : Value) → And (And p q) r ≡ And p (And q r)
  pub and_comm : (p q : Value) → And p q ≡ And q p
  pub or_assoc : (p q r : Value) → Or (Or p q) r ≡ Or p (Or q r)
  pub or_comm : (p q : Value) → Or p q ≡ Or q p
  pub and_absorbs : (p q : Value) → And p (Or p q) ≡ p
  pub or_absorbs : (p q : Value) → Or p (And p q) ≡ p
  pub and_over_or : (p q r : Value) → And p (Or q r) ≡ Or (And p q) (And p r)
  pub or_over_and : (p q r : Value) → Or p (And q r) ≡ And (Or p q) (Or p r)
  pub and_yes : (p : Value) → And p Yes ≡ p
  pub or_no : (p : Value) → Or p No ≡ p
  pub not_not : (p : Value) → Not (Not p) ≡ p
  pub not_or : (p q : Value) → Not (Or p q) ≡ And (Not p) (Not q)

-- p is at most q when (p or q) is q
abbrev pub AtMost : (K : Kind) → K.Value → K.Value → Type 0
AtMost K p q = K.Or p q ≡ q

-- no and yes differ, and every value is one of them
pub record TwoValued (K : Kind) : Type 0 where
  pub differ : K.No ≡ K.Yes → ⊥
  pub one_of : (p : K.Value) → (p ≡ K.No) ⊎ (p ≡ K.Yes)

-- what the one question of a two-valued kind promises: the kind is two-valued, and the answer is true exactly when p
-- is yes
pub record Tells (K : Kind) (p : K.Value) (answer : Bool) : Type 0 where
  pub two : TwoValued K
  pub exactly : (answer ≡ true) ↔ (p ≡ K.Yes)

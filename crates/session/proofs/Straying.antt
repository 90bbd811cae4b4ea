-- Rows and the number of the row that comes again, where they are past 64 bits.
use Rattle.std.proofs.Common.{◌≡◌, ℕ, ◌-◌, ◌^◌, ◌≤◌, min, Bool, List, length, None, Ok, Err, Option, Result, Vec, sym, subst, arith, pow_mono}
use Rattle.std.specs.declared.alloc.Global.{Global}
use Rattle.recording.proofs.Bits.{small_within}
use Rattle.recording.specs.Kind.{Kind}
use Rattle.recording.specs.Tape.{Within}
use Rattle.recording.specs.Word.{Word}
use Rattle.machine.proofs.Placing.{variables_counted}
use Rattle.checker.specs.CheckAnswer.{Answer, Shape}
use Rattle.machine.specs.Machines.{tables}
use Rattle.machine.specs.Tables.{Tables}
use Rattle.machine.specs.declared.place.Machine.{Machine}
use Rattle.checker.specs.declared.refusal.CheckRefusal.{CheckRefusal}
use Rattle.checker.specs.declared.refusal.CheckRefusal.TheVariants.{NoSignal, BadShape, StrayBit}
use Rattle.session.specs.Narrowing.{Narrowed}
use Rattle.session.proofs.Narrowing.{below, past_one}

-- a row that is past 64 bits has a stray bit
pub strays : (E : Type 0) (m : Machine) (rows : List ℕ) (o : Option (Vec ℕ Global)) → o ≡ None → Narrowed {E = E} (below (2 ^ 64)) rows o → Within (length (tables m).variables) rows → ⊥
strays E m rows o e n within =
    let p = past_one E (2 ^ 64) rows o e n in
    let few : length (tables m).variables ≤ 64 = omega (arith, variables_counted m, m.within.1) in
    let most : 2 ^ length (tables m).variables ≤ 2 ^ 64 = pow_mono few in
    omega (arith, small_within (length (tables m).variables) rows within p.0 p.1, p.2)

module _ (K : Kind) {V : Type 0} (means : V → K.Value) (m : Tables) (w : Word V) where
  -- a refusal but for a stray bit looks at no bit
  pub refused_alike : (blank : List ℕ) (back : ℕ) (e : CheckRefusal) → Answer K means m w blank back (Err e)
      → (rows : List ℕ) → length rows ≡ length blank → (Within (length m.variables) rows → ⊥) → Answer K means m w rows back (Err e)
  refused_alike blank back NoSignal told rows size stray = told
  refused_alike blank back BadShape told rows size stray = (told.0, λ shape. told.1 (subst (λ n. Shape w n back) size shape))
  refused_alike blank back StrayBit told rows size stray = (told.0, subst (λ n. Shape w n back) (sym size) told.1, stray)

  -- rows that were checked would have been refused with a stray bit
  pub refused_stray : (blank : List ℕ) (back : ℕ) (a : Bool) → Answer K means m w blank back (Ok a)
      → (rows : List ℕ) → length rows ≡ length blank → (Within (length m.variables) rows → ⊥) → Answer K means m w rows back (Err StrayBit)
  refused_stray blank back a told rows size stray = (told.0, subst (λ n. Shape w n back) (sym size) told.1, stray)

  -- a number past 64 bits counts as the largest of them, which no row has either
  pub placed : (rows : List ℕ) (back back' : ℕ) (r : Result Bool CheckRefusal) → back' ≡ min back (2 ^ 64 - 1) → Answer K means m w rows back' r → Answer K means m w rows back r
  placed rows back back' (Err NoSignal) is told = told
  placed rows back back' (Err BadShape) is told =
      (told.0, λ shape. told.1 (subst (Shape w (length rows)) (let s = shape.turns in omega arith) shape))
  placed rows back back' (Err StrayBit) is told =
      subst (λ b. Answer K means m w rows b (Err StrayBit)) (let s = told.1.turns in let f = told.1.few in omega arith) told
  placed rows back back' (Ok a) is told =
      subst (λ b. Answer K means m w rows b (Ok a)) (let s = told.1.turns in let f = told.1.few in omega arith) told

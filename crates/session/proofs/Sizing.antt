-- No recording is made of numbers past 32 bits.
use Rattle.std.proofs.Common.{◌≡◌, ℕ, ◌-◌, ◌^◌, ◌<◌, ◌≤◌, min, List, length, get_or, None, Ok, Err, Option, Result, Vec, sym, subst, arith, pow_mono}
use Rattle.std.specs.declared.alloc.Global.{Global}
use Rattle.recording.proofs.Bits.{small_within}
use Rattle.recording.specs.Made.{TapeMade, GappedMade, WheelMade}
use Rattle.recording.specs.Tape.{Fits}
use Rattle.recording.specs.Wheel.{Wheels}
use Rattle.recording.specs.declared.gapped.GappedTape.{GappedTape}
use Rattle.recording.specs.declared.refusal.TapeRefusal.{TapeRefusal}
use Rattle.recording.specs.declared.refusal.WheelRefusal.{WheelRefusal}
use Rattle.recording.specs.declared.tape.Tape.{Tape}
use Rattle.recording.specs.declared.wheel.Wheel.{Wheel}
use Rattle.session.specs.Narrowing.{Narrowed}
use Rattle.session.proofs.Narrowing.{below, past_one}

past_mask : (signals stem cycle : ℕ) (masks : List ℕ) (k : ℕ) → k < length masks → 2 ^ 32 ≤ get_or masks k 0 → Fits signals stem cycle masks → ⊥
past_mask signals stem cycle masks k inside past fits =
    let most : 2 ^ signals ≤ 2 ^ 32 = pow_mono fits.sizes.1 in
    omega (arith, small_within signals masks fits.within k inside)

-- numbers that were not narrowed to 32 bits are no masks
pub no_masks : (E : Type 0) (signals stem cycle : ℕ) (masks : List ℕ) (o : Option (Vec ℕ Global)) → o ≡ None → Narrowed {E = E} (below (2 ^ 32)) masks o → Fits signals stem cycle masks → ⊥
no_masks E signals stem cycle masks o e n =
    let p = past_one E (2 ^ 32) masks o e n in
    past_mask signals stem cycle masks p.0 p.1 p.2

-- sizes, each of which counts as the largest number of 32 bits where it is past them
module _ (a b c a' b' c' : ℕ) (is_a : a' ≡ min a (2 ^ 32 - 1)) (is_b : b' ≡ min b (2 ^ 32 - 1)) (is_c : c' ≡ min c (2 ^ 32 - 1)) where
  abbrev Three : Type 0
  Three = ℕ × ℕ × ℕ

  same : a' ≡ a → b' ≡ b → c' ≡ c → ◌≡◌ {A = Three} (a', b', c') (a, b, c)
  same p q r = λ i. (p i, q i, r i)

  small : (a < 2 ^ 32 - 1) × (b < 2 ^ 32 - 1) × (c < 2 ^ 32 - 1) → ◌≡◌ {A = Three} (a', b', c') (a, b, c)
  small h = same (omega arith) (omega arith) (omega arith)

  small' : (a' < 2 ^ 32 - 1) × (b' < 2 ^ 32 - 1) × (c' < 2 ^ 32 - 1) → ◌≡◌ {A = Three} (a', b', c') (a, b, c)
  small' h = same (omega arith) (omega arith) (omega arith)

  pub tape_sized : {ms masks : List ℕ} (r : Result Tape TapeRefusal) → ms ≡ masks → TapeMade a' b' c' ms r → TapeMade a b c masks r
  tape_sized {ms} {masks} r e made = go r (subst (λ xs. TapeMade a' b' c' xs r) e made)
    where
      go : (r : Result Tape TapeRefusal) → TapeMade a' b' c' masks r → TapeMade a b c masks r
      go (Ok t) m =
          let s = m.0.sizes in
          subst (λ (p : Three). TapeMade p.0 p.1 p.2 masks (Ok t)) (small' (omega arith, omega arith, omega arith)) m
      go (Err e) m = λ fits.
          let s = fits.sizes in
          m (subst (λ (p : Three). Fits p.0 p.1 p.2 masks) (sym (small (omega arith, omega arith, omega arith))) fits)

  pub gapped_sized : {ms masks ls lost : List ℕ} (r : Result GappedTape TapeRefusal) → ms ≡ masks → ls ≡ lost → GappedMade a' b' c' ms ls r → GappedMade a b c masks lost r
  gapped_sized {ms} {masks} {ls} {lost} r e d made = go r (subst (λ xs. GappedMade a' b' c' masks xs r) d (subst (λ xs. GappedMade a' b' c' xs ls r) e made))
    where
      go : (r : Result GappedTape TapeRefusal) → GappedMade a' b' c' masks lost r → GappedMade a b c masks lost r
      go (Ok t) m =
          let s = m.0.sizes in
          subst (λ (p : Three). GappedMade p.0 p.1 p.2 masks lost (Ok t)) (small' (omega arith, omega arith, omega arith)) m
      go (Err e) m = λ fits gaps.
          let s = fits.sizes in
          let back = sym (small (omega arith, omega arith, omega arith)) in
          m (subst (λ (p : Three). Fits p.0 p.1 p.2 masks) back fits) (subst (λ (p : Three). Fits p.0 p.1 p.2 lost) back gaps)

  pub wheel_sized : (r : Result Wheel WheelRefusal) → WheelMade a' b' c' r → WheelMade a b c r
  wheel_sized (Ok w) m =
      let s = m.0 in
      subst (λ (p : Three). WheelMade p.0 p.1 p.2 (Ok w)) (small' (omega arith, omega arith, omega arith)) m
  wheel_sized (Err e) m = λ fits. m (subst (λ (p : Three). Wheels p.0 p.1 p.2) (sym (small (omega arith, omega arith, omega arith))) fits)

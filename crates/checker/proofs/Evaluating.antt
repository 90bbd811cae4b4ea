-- A gate's bit depends on earlier gates alone.
use Rattle.std.proofs.Common.{◌≡◌, ℕ, ◌+◌, ◌<◌, Bool, true, false, ◌≢◌, List, length, get_or, set, refl, sym, ◌∙◌, subst, arith, get_or-set_other, get_or-set_same}
use native.Mathlib.Decide.{dec_lt}
use Rattle.std.proofs.lemmas.Bool.Decides.{nat_tests}
use Rattle.recording.specs.Kind.{Kind}
use Rattle.recording.specs.Word.{Word}
use Rattle.machine.specs.declared.gate.Gate.{Gate}
use Rattle.machine.specs.declared.gate.Gate.TheVariants as gate
use Rattle.checker.specs.Moments.{listed}
use Rattle.laws.specs.Runs.{Bits, Reads}
use Rattle.machine.specs.Tables.{gate_fits}
use Rattle.laws.proofs.Behave.{same_bit}

module _ (K : Kind) (word : Word K.Value) where
  -- the same variables' bits and the same earlier gates, the same gate
  pub reads_moves : (run run' : Bits) (z : Gate) (j v t : ℕ) → gate_fits j v z ≡ true → ((i : ℕ) → run i t ≡ run' i t) → (g h : Bits) → ((a : ℕ) → a < j → g a t ≡ h a t)
      → (b : Bool) → Reads K word run g z t b → Reads K word run' h z t b
  reads_moves run run' (gate.Const c) j v t fit same g h e b r = r
  reads_moves run run' (gate.Signal i) j v t fit same g h e b r = r
  reads_moves run run' (gate.Var i) j v t fit same g h e b r = r ∙ same i
  reads_moves run run' (gate.Not a) j v t fit same g h e b r = grind (arith, nat_tests)
  reads_moves run run' (gate.And a c) j v t fit same g h e b r = grind (arith, nat_tests)
  reads_moves run run' (gate.Or a c) j v t fit same g h e b r = grind (arith, nat_tests)

module _ (K : Kind) (word : Word K.Value) (run : Bits) where
  -- a gate has one bit
  pub reads_one : (z : Gate) (t : ℕ) (g : Bits) (b c : Bool) → Reads K word run g z t b → Reads K word run g z t c → b ≡ c
  reads_one (gate.Const x) t g b c r q = r ∙ sym q
  reads_one (gate.Signal i) t g b c r q = same_bit b c (λ e. q.1 (r.0 e)) (λ e. r.1 (q.0 e))
  reads_one (gate.Var i) t g b c r q = r ∙ sym q
  reads_one (gate.Not a) t g b c r q = r ∙ sym q
  reads_one (gate.And x y) t g b c r q = r ∙ sym q
  reads_one (gate.Or x y) t g b c r q = r ∙ sym q

  -- one more gate in the list
  pub reads_set : (gates : ℕ → Gate) (v k t : ℕ) (values : List Bool) (b : Bool) → k < length values → ((j : ℕ) → j < k + 1 → gate_fits j v (gates j) ≡ true)
      → ((j : ℕ) → j < k → Reads K word run (listed values) (gates j) t (get_or values j false))
      → Reads K word run (listed values) (gates k) t b
      → (j : ℕ) → j < k + 1 → Reads K word run (listed (set values k b)) (gates j) t (get_or (set values k b) j false)
  reads_set gates v k t values b inside fit below here j h =
      elim (dec_lt j k) [
        | yes less ↦
            (subst (λ c. Reads K word run (listed (set values k b)) (gates j) t c) (sym (kept j less))
            (reads_moves K word run run (gates j) j v t (fit j (omega arith)) (λ _. refl) (listed values) (listed (set values k b)) (λ a ha. sym (kept a (omega arith))) (get_or values j false) (below j less)))
        | no more ↦
            (let e : j ≡ k = omega arith in
            subst (λ i. Reads K word run (listed (set values k b)) (gates i) t (get_or (set values k b) i false)) (sym e)
            (subst (λ c. Reads K word run (listed (set values k b)) (gates k) t c) (sym (get_or-set_same values k b false inside))
            (reads_moves K word run run (gates k) k v t (fit k (omega arith)) (λ _. refl) (listed values) (listed (set values k b)) (λ a ha. sym (kept a ha)) b here)))
      ]
    where
      kept : (a : ℕ) → a < k → get_or (set values k b) a false ≡ get_or values a false
      kept a ha = let ne : a ≢ k = omega arith in get_or-set_other values k a b false ne

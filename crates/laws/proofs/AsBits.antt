-- Reading a two-valued kind as bits keeps every row.
use Rattle.std.proofs.Common.{◌≡◌, ℕ, zero, suc, ◌-◌, ◌<◌, Bool, true, false, not, ◌&&◌, ◌||◌, ◌⊎◌, sym, refl, ap, ◌∙◌, subst, ap₂, inl, inr}
use Rattle.recording.specs.Kind.{Kind, AtMost, TwoValued}
use Rattle.recording.specs.Kinds.{two}
use Rattle.recording.specs.Word.{Word, meant}
use Rattle.sheet.specs.declared.line.Line.{Line}
use Rattle.sheet.specs.declared.line.Line.TheVariants.{Const, Signal, Not, And, Or, Next, Until, WeakUntil, Previous, WeakPrevious, Since, WeakSince}
use Rattle.meaning.specs.Sheet.{Values, ands, ors, reach, since, before, IsUntil, IsAlways, IsWeakUntil, Row}
use Rattle.laws.proofs.Neutrals.{no_and, yes_and, yes_or, no_or, not_yes, not_no}

module _ (K : Kind) (only : TwoValued K) where
  abbrev which : {p : K.Value} → (p ≡ K.No) ⊎ (p ≡ K.Yes) → Bool
  which (inl e) = false
  which (inr e) = true

  -- whether a value is yes
  abbrev pub is_yes : K.Value → Bool
  is_yes p = which (only.one_of p)

  abbrev pub bits_of : Word K.Value → Word Bool
  bits_of word = meant is_yes word

  -- the bit back into the kind
  back : Bool → K.Value
  back true = K.Yes
  back false = K.No

  back_is : (p : K.Value) → back (is_yes p) ≡ p
  unfolding back
  back_is p = go (only.one_of p)
    where
      go : (d : (p ≡ K.No) ⊎ (p ≡ K.Yes)) → back (which d) ≡ p
      go (inl e) = sym e
      go (inr e) = sym e

  is_back : (b : Bool) → is_yes (back b) ≡ b
  unfolding back
  is_back true = go (only.one_of K.Yes)
    where
      go : (d : (K.Yes ≡ K.No) ⊎ (K.Yes ≡ K.Yes)) → which d ≡ true
      go (inl e) = absurd (only.differ (sym e))
      go (inr e) = refl
  is_back false = go (only.one_of K.No)
    where
      go : (d : (K.No ≡ K.No) ⊎ (K.No ≡ K.Yes)) → which d ≡ false
      go (inl e) = refl
      go (inr e) = absurd (only.differ e)

  back_and : (a b : Bool) → K.And (back a) (back b) ≡ back (a && b)
  unfolding back
  back_and true b = yes_and K (back b)
  back_and false b = no_and K (back b)

  back_or : (a b : Bool) → K.Or (back a) (back b) ≡ back (a || b)
  unfolding back
  back_or true b = yes_or K (back b)
  back_or false b = no_or K (back b)

  back_not : (a : Bool) → K.Not (back a) ≡ back (not a)
  unfolding back
  back_not true = not_yes K
  back_not false = not_no K

  ι : K.Value → Bool
  ι p = is_yes p

  ι_and : (p q : K.Value) → ι (K.And p q) ≡ (ι p && ι q)
  unfolding ι
  ι_and p q = ap (is_yes) (ap₂ K.And (sym (back_is p)) (sym (back_is q)) ∙ back_and (is_yes p) (is_yes q)) ∙ is_back (is_yes p && is_yes q)

  ι_or : (p q : K.Value) → ι (K.Or p q) ≡ (ι p || ι q)
  unfolding ι
  ι_or p q = ap (is_yes) (ap₂ K.Or (sym (back_is p)) (sym (back_is q)) ∙ back_or (is_yes p) (is_yes q)) ∙ is_back (is_yes p || is_yes q)

  ι_not : (p : K.Value) → ι (K.Not p) ≡ not (ι p)
  unfolding ι
  ι_not p = ap (is_yes) (ap K.Not (sym (back_is p)) ∙ back_not (is_yes p)) ∙ is_back (not (is_yes p))

  ι_no : ι K.No ≡ false
  unfolding ι back
  ι_no = is_back false

  ι_yes : ι K.Yes ≡ true
  unfolding ι back
  ι_yes = is_back true

  -- the order is kept, both ways
  ι_at : (p q : K.Value) → AtMost K p q → AtMost two (ι p) (ι q)
  ι_at p q h = sym (ι_or p q) ∙ ap ι h

  at_ι : (p : K.Value) (b : Bool) → AtMost two (ι p) b → AtMost K p (back b)
  unfolding ι
  at_ι p b h = ap (λ z. K.Or z (back b)) (sym (back_is p)) ∙ back_or (is_yes p) b ∙ ap back h

  back_at : (p : K.Value) (b : Bool) → AtMost two b (ι p) → AtMost K (back b) p
  unfolding ι
  back_at p b h = ap (K.Or (back b)) (sym (back_is p)) ∙ back_or b (is_yes p) ∙ ap back h ∙ back_is p

  ι_ands : (l : Values K) (t n : ℕ) → ι (ands K l t n) ≡ ands two (λ s. ι (l s)) t n
  ι_ands l t zero = ι_yes
  ι_ands l t (suc n) = ι_and (l t) (ands K l (suc t) n) ∙ ap (λ z. ι (l t) && z) (ι_ands l (suc t) n)

  ι_ors : (g : Values K) (n : ℕ) → ι (ors K g n) ≡ ors two (λ s. ι (g s)) n
  ι_ors g zero = ι_no
  ι_ors g (suc n) = ι_or (ors K g n) (g n) ∙ ap (λ z. z || ι (g n)) (ι_ors g n)

  ι_reach : (l r : Values K) (t d : ℕ) → ι (reach K l r t d) ≡ reach two (λ s. ι (l s)) (λ s. ι (r s)) t d
  ι_reach l r t d = ι_and (r d) (ands K l t (d - t)) ∙ ap (λ z. ι (r d) && z) (ι_ands l t (d - t))

  ι_until : (l r : Values K) (t : ℕ) (p : K.Value) → IsUntil K l r t p → IsUntil two (λ s. ι (l s)) (λ s. ι (r s)) t (ι p)
  unfolding ι
  ι_until l r t p is =
      record {
        above = λ d h. subst (λ z. AtMost two z (ι p)) (ι_reach l r t d) (ι_at (reach K l r t d) p (is.above d h));
        least = λ b h.
            subst (AtMost two (ι p)) (is_back b)
            (ι_at p (back b)
            (is.least (back b) (λ d k. at_ι (reach K l r t d) b (subst (λ z. AtMost two z b) (sym (ι_reach l r t d)) (h d k)))));
      }

  ι_always : (l : Values K) (t : ℕ) (p : K.Value) → IsAlways K l t p → IsAlways two (λ s. ι (l s)) t (ι p)
  unfolding ι
  ι_always l t p is =
      record {
        under = λ d h. ι_at p (l d) (is.under d h);
        greatest = λ b h.
            subst (λ z. AtMost two z (ι p)) (is_back b)
            (ι_at (back b) p (is.greatest (back b) (λ d k. back_at (l d) b (h d k))));
      }

  ι_weak : (l r : Values K) (t : ℕ) (p : K.Value) → IsWeakUntil K l r t p → IsWeakUntil two (λ s. ι (l s)) (λ s. ι (r s)) t (ι p)
  ι_weak l r t p is =
      record {
        until = ι is.until;
        always = ι is.always;
        is_until = ι_until l r t is.until is.is_until;
        is_always = ι_always l t is.always is.is_always;
        is_or = ap ι is.is_or ∙ ι_or is.until is.always;
      }

  ι_before : (p : K.Value) (b : Bool) → ι p ≡ b → (l : Values K) (t : ℕ) → ι (before K p l t) ≡ before two b (λ s. ι (l s)) t
  ι_before p b e l zero = e
  ι_before p b e l (suc t) = refl

  ι_since : (l r : Values K) (t : ℕ) → ι (since K l r t) ≡ since two (λ s. ι (l s)) (λ s. ι (r s)) t
  ι_since l r t =
      ι_ors (λ d. K.And (r d) (ands K l (suc d) (t - d))) (suc t)
      ∙ ap (λ g. ors two g (suc t)) (λ i d. (ι_and (r d) (ands K l (suc d) (t - d)) ∙ ap (λ z. ι (r d) && z) (ι_ands l (suc d) (t - d))) i)

  module _ (word : Word K.Value) where
    ι_row : (x : Line) (f : ℕ → Values K) (t : ℕ) (p : K.Value) → Row K word x f t p → Row two (bits_of word) x (λ k s. ι (f k s)) t (ι p)
    unfolding ι
    ι_row (Const true) f t p h = ap ι h ∙ ι_yes
    ι_row (Const false) f t p h = ap ι h ∙ ι_no
    ι_row (Signal i) f t p h = ap ι h
    ι_row (Not a) f t p h = ap ι h ∙ ι_not (f a t)
    ι_row (And a b) f t p h = ap ι h ∙ ι_and (f a t) (f b t)
    ι_row (Or a b) f t p h = ap ι h ∙ ι_or (f a t) (f b t)
    ι_row (Next a) f t p h = ap ι h
    ι_row (Until a b) f t p h = ι_until (f a) (f b) t p h
    ι_row (WeakUntil a b) f t p h = ι_weak (f a) (f b) t p h
    ι_row (Previous a) f t p h = ap ι h ∙ ι_before K.No false ι_no (f a) t
    ι_row (WeakPrevious a) f t p h = ap ι h ∙ ι_before K.Yes true ι_yes (f a) t
    ι_row (Since a b) f t p h = ap ι h ∙ ι_since (f a) (f b) t
    ι_row (WeakSince a b) f t p h =
        ap ι h ∙ ι_or (since K (f a) (f b) t) (ands K (f a) 0 (suc t)) ∙ ap₂ ◌||◌ (ι_since (f a) (f b) t) (ι_ands (f a) 0 (suc t))

  -- a valuation, read as bits, is one of the word read as bits
  pub reads_as_bits : (word : Word K.Value) (x : ℕ → Line) (n : ℕ) (f : ℕ → Values K)
      → ((k : ℕ) → k < n → (t : ℕ) → Row K word (x k) f t (f k t))
      → (k : ℕ) → k < n → (t : ℕ) → Row two (bits_of word) (x k) (λ j s. is_yes (f j s)) t (is_yes (f k t))
  unfolding ι
  reads_as_bits word x n f val k hk t = ι_row word (x k) f t (f k t) (val k hk t)

  pub yes_is : (p : K.Value) → is_yes p ≡ true → p ≡ K.Yes
  unfolding back
  yes_is p e = sym (back_is p) ∙ ap back e

  pub is_yes_of : (p : K.Value) → p ≡ K.Yes → is_yes p ≡ true
  unfolding back
  is_yes_of p e = ap is_yes e ∙ is_back true

  pub is_yes_no : is_yes K.No ≡ false
  unfolding back
  is_yes_no = is_back false

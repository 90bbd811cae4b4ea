-- What a story tells of one of its calls.
use Rattle.std.proofs.Common.{◌≡◌, ℕ, zero, suc, ◌<◌, List, [], ◌∷◌, length, get_or, take, fold, sym, subst, not-suc-le-zero, arith}
use Rattle.sheet.specs.Ledger.{Ledger}
use Rattle.run.specs.declared.answer.Answer.{Answer}
use Rattle.run.specs.declared.answer.Answer.TheVariants.{NoRecording}
use Rattle.run.specs.declared.call.Call.{Call}
use Rattle.run.specs.declared.call.Call.TheVariants.{Strike}
use Rattle.run.specs.Histories.{step, after}
use Rattle.run.specs.Story.{Heard, Lent, On, Tells, Story}

pub on_map : {X : Type 0} (xs : List X) (i : ℕ) (P P' : X → Type 0) (Q Q' : Type 0) → ((x : X) → P x → P' x) → (Q → Q') → On xs i P Q → On xs i P' Q'
on_map [] i P P' Q Q' f g h = g h
on_map (x ∷ xs) zero P P' Q Q' f g h = f x h
on_map (x ∷ xs) (suc i) P P' Q Q' f g h = on_map xs i P P' Q Q' f g h

module _ {V W : Type 0} (h : Heard V) (b : Heard W) where
  -- call m
  story_at : (l : Ledger) (s u : Lent V W) (cs : List Call) (zs : List (Answer V W)) (m : ℕ) → m < length cs → Story h b l s cs zs u
      → (t : Lent V W) × (t' : Lent V W) × Tells h b (fold step l (take m cs)).form (fold step l (take m cs)) (get_or cs m Strike) (get_or zs m NoRecording) t t'
  story_at l s u [] zs m k st = absurd (not-suc-le-zero k)
  story_at l s u (c ∷ cs) [] m k st = absurd st
  story_at l s u (c ∷ cs) (a ∷ zs) zero k st = (s, st.0, st.1)
  story_at l s u (c ∷ cs) (a ∷ zs) (suc m) k st = story_at (step l c) st.0 u cs zs m (omega arith) st.2

  pub told_at : (l : Ledger) (s u : Lent V W) (cs : List Call) (zs : List (Answer V W)) (m : ℕ) (n : Ledger) (c : Call) (a : Answer V W) → m < length cs
      → Story h b l s cs zs u → get_or cs m Strike ≡ c → after l (take m cs) ≡ n → get_or zs m NoRecording ≡ a
      → (t : Lent V W) × (t' : Lent V W) × Tells h b n.form n c a t t'
  unfolding after
  told_at l s u cs zs m n c a k st ec el ea =
      let w = story_at l s u cs zs m k st in (w.0, w.1, rw (← el, ← ec, ← ea) w.2)

  -- the last call
  story_last : (l : Ledger) (s u : Lent V W) (cs : List Call) (zs : List (Answer V W)) (n : ℕ) → suc n ≡ length cs → Story h b l s cs zs u
      → (t : Lent V W) × Tells h b (fold step l (take n cs)).form (fold step l (take n cs)) (get_or cs n Strike) (get_or zs n NoRecording) t u
  story_last l s u [] zs n k st = absurd (omega arith)
  story_last l s u (c ∷ cs) [] n k st = absurd st
  story_last l s u (c ∷ []) (a ∷ []) zero k st = (s, subst (λ (x : Lent V W). Tells h b l.form l c a s x) (sym st.2) st.1)
  story_last l s u (c ∷ []) (a ∷ z ∷ zs) zero k st = absurd st.2
  story_last l s u (c ∷ d ∷ cs) (a ∷ zs) zero k st = absurd (omega arith)
  story_last l s u (c ∷ cs) (a ∷ zs) (suc n) k st = story_last (step l c) st.0 u cs zs n (omega arith) st.2

  pub told_last : (l : Ledger) (s u : Lent V W) (cs : List Call) (zs : List (Answer V W)) (n : ℕ) (m : Ledger) (c : Call) → suc n ≡ length cs
      → Story h b l s cs zs u → get_or cs n Strike ≡ c → after l (take n cs) ≡ m → (t : Lent V W) × Tells h b m.form m c (get_or zs n NoRecording) t u
  unfolding after
  told_last l s u cs zs n m c k st ec el =
      let w = story_last l s u cs zs n k st in (w.0, rw (← el, ← ec) w.1)

-- The first signal.
use Rattle.std.proofs.Common.{◌≡◌, ℕ, zero, suc, ◌+◌, ◌*◌, ◌≤◌, List, [], ◌∷◌, length, get_or, take, Ok, Err, Result, sym, ap, ◌∙◌, subst, one-mul, zero-mul, arith, take_all, get_or-take}
use Rattle.recording.specs.Word.{Word}
use Rattle.sheet.specs.declared.line.Line.TheVariants.{Signal}
use Rattle.sheet.specs.Ledger.{Ledger, start}
use Rattle.sheet.specs.Table.{HasSignals}
use Rattle.meaning.specs.declared.refusal.Refusal.{Refusal}
use Rattle.meaning.specs.declared.refusal.Refusal.TheVariants.{NoSignal, TooFewCells}
use Rattle.meaning.specs.Verdict as meaning
use Rattle.run.specs.declared.answer.Answer.{Answer}
use Rattle.run.specs.declared.answer.Answer.TheVariants.{Done, NoRecording}
use Rattle.run.specs.declared.call.Call.{Call}
use Rattle.run.specs.declared.call.Call.TheVariants.{Write, Seal, Judge}
use Rattle.run.specs.Story.{Heard, Lent, Story, Judges, told_verdict}
use Rattle.customer.specs.First.{IsVerdict, ToldFirst}
use Rattle.customer.proofs.Stories.{on_map}

one_line : (c : ℕ) → 1 ≤ c → HasSignals (Signal 0 ∷ []) c
one_line c h zero k = h
one_line c h (suc n) k = absurd (omega arith)

module _ {V W : Type 0} (h : Heard V) (b : Heard W) where
  abbrev three_calls : List Call
  three_calls = Write 1 0 0 ∷ Seal ∷ Judge 0 ∷ []

  judged_first : (w : Word V) (before after cells : List V) → before ≡ cells → (a : Answer V W) (o : Result V Refusal) → a ≡ told_verdict o
      → meaning.Verdict h.kind h.means (Signal 0 ∷ []) w 0 0 before after o → w.stem + w.cycle ≤ length cells
      → IsVerdict (λ v. h.means v ≡ h.means (w.at 0 0)) a
  judged_first w before after cells same a (Ok v) is j room =
      subst (IsVerdict (λ x. h.means x ≡ h.means (w.at 0 0))) (sym is) (j.verdict ∙ j.valuation 0 (omega arith) 0)
  judged_first w before after cells same a (Err NoSignal) is j room = absurd (j.0 (one_line w.signals w.sizes.0))
  judged_first w before after cells same a (Err TooFewCells) is j room =
      absurd (omega (arith, j.1, ap length same, zero-mul w.cycle, one-mul (w.stem + 0 * w.cycle + w.cycle)))

  third : (s u : Lent V W) (zs : List (Answer V W)) → Story h b start s three_calls zs u → ToldFirst h s.cells (get_or zs 2 Done)
  third s u [] st = absurd st
  third s u (x ∷ []) st = absurd st.2
  third s u (x ∷ y ∷ []) st = absurd st.2.2
  third s u (x ∷ y ∷ a ∷ []) st =
      let t : Lent V W = st.2.0 in
      let same : t.cells ≡ s.cells = ap (λ (m : Lent V W). m.cells) st.2.1.1 ∙ ap (λ (m : Lent V W). m.cells) st.1.1 in
      on_map h.words 0 (Judges h (Signal 0 ∷ []) a t st.2.2.0) _ _ (a ≡ NoRecording)
      (λ w v. judged_first w t.cells st.2.2.0.cells s.cells same a v.0 v.1 v.2)
      (λ l. l.0) st.2.2.1
  third s u (x ∷ y ∷ a ∷ z ∷ zs) st = absurd st.2.2.2

  pub first_of : (l : Ledger) → l ≡ start → (s u : Lent V W) (room : ℕ) (zs : List (Answer V W)) → Story h b l s (take room three_calls) (take 3 zs) u → 3 ≤ room
      → ToldFirst h s.cells (get_or zs 2 Done)
  first_of l new s u room zs st r =
      rw (← get_or-take 3 zs 2 Done (omega arith)) (third s u (take 3 zs) (rw (take_all room three_calls r, new) at st))

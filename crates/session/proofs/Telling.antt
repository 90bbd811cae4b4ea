-- How much judging fills is told of a verdict alone, and judging leaves the sheet as it was: so it may be worked out
-- after the call.
use Rattle.std.proofs.Common.{◌≡◌, ℕ, List, [], ◌∷◌, Ok, Err, Result, sym, refl, ap, ◌∙◌, subst}
use Rattle.recording.specs.Word.{Word}
use Rattle.recording.specs.declared.truth.Ternary.{Ternary}
use Rattle.sheet.specs.Ledger as ledger
use Rattle.sheet.specs.Ledger.{Ledger, Form, Drafted, Shut, fed}
use Rattle.sheet.specs.declared.line.Line.{Line}
use Rattle.run.specs.declared.answer.Answer.{Answer as Reply}
use Rattle.run.specs.declared.answer.Answer.TheVariants as reply
use Rattle.run.specs.declared.call.Call.TheVariants as library
use Rattle.run.specs.declared.refusal.WriteRefusal.{WriteRefusal}
use Rattle.run.specs.declared.writing.Written.{Written}
use Rattle.run.specs.Histories.{feeds, fed_with, step}
use Rattle.run.specs.Story.{Heard, Lent, On, Only, Tells, Told, Writes, told_run}
use Rattle.asked.specs.declared.call.SheetCall.{SheetCall}
use Rattle.asked.specs.declared.call.SheetCall.TheVariants as call
use Rattle.session.specs.declared.answer.Answer.{Answer}
use Rattle.session.specs.declared.answer.Filled.{Filled}
use Rattle.session.specs.Replies.{filled_on, made_as, told}

abbrev NoVerdict : {V W : Type 0} → Reply V W → Type 0
NoVerdict (reply.Line n) = Unit {0}
NoVerdict reply.Done = Unit {0}
NoVerdict (reply.Refused e) = Unit {0}
NoVerdict (reply.Verdict v) = ⊥
NoVerdict (reply.Run r) = Unit {0}
NoVerdict (reply.NotWhile x) = Unit {0}
NoVerdict reply.NoRecording = Unit {0}

module _ {V W : Type 0} where
  same_reply : (a x : Reply V W) → a ≡ x → NoVerdict x → NoVerdict a
  same_reply a x e quiet = subst (λ (y : Reply V W). NoVerdict y) (sym e) quiet

  ledger_no_verdict : (x : ledger.Answer) (a : Reply V W) → Told x a → NoVerdict a
  ledger_no_verdict (ledger.Written n) a e = same_reply a (reply.Line n) e tt
  ledger_no_verdict ledger.Done a e = same_reply a reply.Done e tt
  ledger_no_verdict (ledger.Refused n) a e = same_reply a _ e.1 tt

  run_no_verdict : (o : Result (Written W) WriteRefusal) (a : Reply V W) → a ≡ told_run o → NoVerdict a
  run_no_verdict (Ok r) a e = same_reply a (reply.Run r) e tt
  run_no_verdict (Err x) a e = same_reply a (told_run (Err x)) e tt

  number_no_verdict : (b : Heard W) (lines : List Line) (a : Reply V W) (s t : Lent V W) (ws : List (Word W)) → On ws 0 (Writes b lines a s t) (Only reply.NoRecording a s t) → NoVerdict a
  number_no_verdict b lines a s t [] tells = same_reply a reply.NoRecording tells.0 tt
  number_no_verdict b lines a s t (w ∷ ws) tells = run_no_verdict tells.0 a tells.1

module _ {V W : Type 0} (h : Heard V) (b : Heard W) where
  -- judging alone answers a verdict
  no_verdict : (form : Form) (l : Ledger) (c : SheetCall) (a : Reply V W) (s t : Lent V W) → (c ≡ call.Judge → ⊥) → Tells h b form l (made_as c) a s t → NoVerdict a
  no_verdict Drafted l (call.Write x y z) a s t other tells = ledger_no_verdict (fed l (ledger.Write x y z)).0 a tells.0
  no_verdict Drafted l call.Strike a s t other tells = ledger_no_verdict (fed l ledger.Strike).0 a tells.0
  no_verdict Drafted l call.Seal a s t other tells = ledger_no_verdict (fed l ledger.Seal).0 a tells.0
  no_verdict Drafted l call.Reopen a s t other tells = same_reply a _ tells.0 tt
  no_verdict Drafted l call.Translate a s t other tells = same_reply a _ tells.0 tt
  no_verdict Drafted l call.Judge a s t other tells = absurd (other refl)
  no_verdict Drafted l call.Run a s t other tells = same_reply a _ tells.0 tt
  no_verdict Shut l (call.Write x y z) a s t other tells = same_reply a _ tells.0 tt
  no_verdict Shut l call.Strike a s t other tells = same_reply a _ tells.0 tt
  no_verdict Shut l call.Seal a s t other tells = same_reply a _ tells.0 tt
  no_verdict Shut l call.Reopen a s t other tells = ledger_no_verdict (fed l ledger.Reopen).0 a tells.0
  no_verdict Shut l call.Translate a s t other tells = same_reply a _ tells.0 tt
  no_verdict Shut l call.Judge a s t other tells = absurd (other refl)
  no_verdict Shut l call.Run a s t other tells = number_no_verdict b l.lines a s t b.words tells

  module _ (three : V → Ternary) (raise : W → Ternary) (lacking : Answer) where
    -- with no verdict, how much is filled is not told
    alike : (c : SheetCall) (f g : Filled) (a : Reply V W) → NoVerdict a → told three raise c f lacking a ≡ told three raise c g lacking a
    alike c f g (reply.Line n) quiet = refl
    alike c f g reply.Done quiet = refl
    alike c f g (reply.Refused e) quiet = refl
    alike c f g (reply.Verdict v) quiet = absurd quiet
    alike c f g (reply.Run r) quiet = refl
    alike c f g (reply.NotWhile x) quiet = refl
    alike c f g reply.NoRecording quiet = refl

    -- judging leaves the ledger as it was
    kept : (form : Form) (l : Ledger) (i : ℕ) → fed_with (feeds form (library.Judge i)) l ≡ l
    kept Drafted l i = refl
    kept Shut l i = refl

    other_alike : (l : Ledger) (c : SheetCall) (a : Reply V W) (s t : Lent V W) → (c ≡ call.Judge → ⊥) → Tells h b l.form l (made_as c) a s t → (f g : Filled) → told three raise c f lacking a ≡ told three raise c g lacking a
    other_alike l c a s t other tells f g = alike c f g a (no_verdict l.form l c a s t other tells)

    step_alike : (l : Ledger) (c : SheetCall) (a : Reply V W) (s t : Lent V W) → Tells h b l.form l (made_as c) a s t → told three raise c (filled_on (step l (made_as c)) h.words) lacking a ≡ told three raise c (filled_on l h.words) lacking a
    step_alike l (call.Write x y z) a s t tells = other_alike l (call.Write x y z) a s t (λ e. cc) tells _ _
    step_alike l call.Strike a s t tells = other_alike l call.Strike a s t (λ e. cc) tells _ _
    step_alike l call.Seal a s t tells = other_alike l call.Seal a s t (λ e. cc) tells _ _
    step_alike l call.Reopen a s t tells = other_alike l call.Reopen a s t (λ e. cc) tells _ _
    step_alike l call.Translate a s t tells = other_alike l call.Translate a s t (λ e. cc) tells _ _
    step_alike l call.Judge a s t tells = ap (λ k. told three raise call.Judge (filled_on k h.words) lacking a) (kept l.form l 0)
    step_alike l call.Run a s t tells = other_alike l call.Run a s t (λ e. cc) tells _ _

    -- what is told with the ledger after the call, k, is what is told with the one before it, l
    pub told_after : (l k : Ledger) (c : SheetCall) (a : Reply V W) (s t : Lent V W) (x : Answer) → k ≡ step l (made_as c) → Tells h b l.form l (made_as c) a s t
        → x ≡ told three raise c (filled_on k h.words) lacking a → x ≡ told three raise c (filled_on l h.words) lacking a
    told_after l k c a s t x after tells is =
        is ∙ ap (λ m. told three raise c (filled_on m h.words) lacking a) after ∙ step_alike l c a s t tells

-- Gapped recordings and full ones, and the last machine.
use Rattle.std.proofs.Common.{◌≡◌, ℕ, ◌<◌, ◌≤◌, ◌↔◌, List, length, take, Ok, Err, sym, ap, ◌∙◌, subst, subst₂, arith}
use Rattle.recording.specs.Kind.{Kind}
use Rattle.recording.specs.Kinds.{three}
use Rattle.recording.specs.Word.{Word, meant}
use Rattle.recording.specs.declared.truth.Ternary.{Ternary}
use Rattle.sheet.specs.declared.line.Line.{Line}
use Rattle.sheet.specs.Ledger.{Ledger}
use Rattle.meaning.specs.Sheet.{Holds, rule_of}
use Rattle.meaning.specs.Verdict.{Filled}
use Rattle.laws.specs.Laws.{OnWords, Settled, Settles, Fills}
use Rattle.laws.specs.Runs.{HasAcceptingRun}
use Rattle.machine.specs.Tables.{Tables}
use Rattle.machine.specs.Translation.{translate}
use Rattle.run.specs.declared.answer.Answer.{Answer}
use Rattle.run.specs.declared.answer.Answer.TheVariants.{Verdict, Run}
use Rattle.run.specs.declared.call.Call.{Call}
use Rattle.run.specs.declared.call.Call.TheVariants.{Translate, Judge, WriteOut}
use Rattle.run.specs.declared.writing.Written.{Written}
use Rattle.run.specs.Histories.{after}
use Rattle.run.specs.Law.{Law, Throughout}
use Rattle.run.specs.Story.{Heard, Lent, Story, Judges, Writes}
use Rattle.run.specs.Writing.{WrittenOut}
use Rattle.customer.specs.Alike.{Alike, sealed}
use Rattle.customer.specs.Last.{LastMachine}
use Rattle.customer.proofs.Stories.{on_map, told_at, told_last}

-- a verdict on a gapped word and one on a full word, by what is known of fillings
pub settles : {W : Type 0} (B : Kind) (means : W → B.Value) (lines : List Line) → 0 < length lines → OnWords three lines (Settled B lines)
    → (gapped : Word Ternary) (full : Word W) (c c' : List Ternary) (d d' : List W) (p : Ternary) (q : W)
    → Filled three (λ v. v) lines gapped (rule_of lines) 0 c c' p → Filled B means lines full (rule_of lines) 0 d d' q
    → Fills B lines gapped (meant means full) → Settles B p (means q)
settles B means lines some law gapped full c c' d d' p q judged wrote fills =
    let rule : rule_of lines < length lines = omega arith in
    let e = law (meant (λ v. v) gapped) judged.has_signals in
    let g = e.2 (meant means full) wrote.has_signals fills in
    subst₂ (Settles B)
    (sym (judged.verdict ∙ e.1.only judged.f judged.valuation (rule_of lines) rule 0))
    (sym (wrote.verdict ∙ g.1.only wrote.f wrote.valuation (rule_of lines) rule 0))
    (g.2 (rule_of lines) rule 0)

-- an answer that is a verdict, or a run, comes of a call that was not refused
module _ {V W : Type 0} (h : Heard V) (b : Heard W) where
  judged_ok : (lines : List Line) (w : Word V) (p : V) (s t : Lent V W) → Judges h lines (Verdict p) s t w
      → Filled h.kind h.means lines w (rule_of lines) 0 s.cells t.cells p
  judged_ok lines w p s t (Ok q, is, j, same) =
      let e : q ≡ p = cc in subst (Filled h.kind h.means lines w (rule_of lines) 0 s.cells t.cells) e j
  judged_ok lines w p s t (Err e, is, j, same) = let z : ◌≡◌ {A = ℕ} 0 1 = cc in absurd (omega arith)

  run_ok : (lines : List Line) (w : Word W) (r : Written W) (s t : Lent V W) → Writes b lines (Run r) s t w
      → WrittenOut b.kind b.means lines w s.bits t.bits s.rows t.rows r
  run_ok lines w r s t (Ok q, is, j, same) =
      let e : q ≡ r = cc in subst (WrittenOut b.kind b.means lines w s.bits t.bits s.rows t.rows) e j
  run_ok lines w r s t (Err e, is, j, same) = let z : ◌≡◌ {A = ℕ} 0 1 = cc in absurd (omega arith)

law_at : (K B : Kind) (l : Ledger) (cs : List Call) (n : ℕ) (lines : List Line) → n ≤ length cs → after l (take n cs) ≡ sealed lines → Throughout K B l cs → Law K B lines
law_at K B l cs n lines k e law = subst (λ (m : Ledger). Law K B m.lines) e (law n k (ap (λ (m : Ledger). m.form) e))

pub last_machine : {V W : Type 0} (h : Heard V) (b : Heard W) (l : Ledger) (s u : Lent V W) (cs : List Call) (zs : List (Answer V W)) → Story h b l s cs zs u
    → Throughout h.kind b.kind l cs → LastMachine b.kind u.machine l cs
last_machine h b l s u cs zs st law n lines k c e =
    let t = told_last h b l s u cs zs n (sealed lines) Translate k st c e in
    let is : u.machine ≡ translate lines = ap (λ (x : Lent _ _). x.machine) t.1.1 in
    subst (λ (m : Tables). OnWords b.kind lines (λ word f. HasAcceptingRun b.kind m word 0 ↔ Holds b.kind f (rule_of lines) 0))
    (sym is) (law_at h.kind b.kind l cs n lines (omega arith) e law).machine

module _ {W : Type 0} (B : Kind) (means : W → B.Value) (gapped : List (Word Ternary)) (full : List (Word W)) where
  pub alike : (l : Ledger) (s u : Lent Ternary W) (cs : List Call) (zs : List (Answer Ternary W))
      → Story (record { kind = three; means = λ p. p; words = gapped }) (record { kind = B; means = means; words = full }) l s cs zs u
      → Throughout three B l cs → Alike B means gapped full l cs zs
  alike l s u cs zs st law m n i j lines p r hm hn cm lm am cn ln an =
      let h : Heard Ternary = record { kind = three; means = λ p. p; words = gapped } in
      let b : Heard W = record { kind = B; means = means; words = full } in
      let x = told_at h b l s u cs zs m (sealed lines) (Judge i) (Verdict p) hm st cm lm am in
      let y = told_at h b l s u cs zs n (sealed lines) (WriteOut j) (Run r) hn st cn ln an in
      let holds : Law three B lines = law_at three B l cs m lines (omega arith) lm law in
      on_map gapped i (Judges h lines (Verdict p) x.0 x.1) _ _ (Unit {0})
      (λ w v.
      on_map full j (Writes b lines (Run r) y.0 y.1) _ _ (Unit {0})
      (λ w₂ v₂.
      settles B means lines holds.some holds.filled w w₂ _ _ _ _ p r.verdict (judged_ok h b lines w p x.0 x.1 v)
      (run_ok h b lines w₂ r y.0 y.1 v₂).filled)
      (λ _. tt) y.2)
      (λ _. tt) x.2

-- What calls on a sheet answer, and what they leave of all that is lent to them.
use Rattle.std.specs.Prelude.{◌≡◌, ℕ, zero, suc, List, [], ◌∷◌, map, Ok, Err, Result}
use Rattle.recording.specs.Kind.{Kind}
use Rattle.recording.specs.Word.{Word}
use Rattle.sheet.specs.declared.line.Line.{Line}
use Rattle.sheet.specs.Ledger as ledger
use Rattle.sheet.specs.Ledger.{Ledger, Form, Drafted, Shut, fed}
use Rattle.sheet.specs.Refusals.{number_of}
use Rattle.sheet.specs.declared.refusal.Refusal as sheet
use Rattle.meaning.specs.declared.refusal.Refusal as judging
use Rattle.meaning.specs.Sheet.{rule_of}
use Rattle.meaning.specs.Verdict as meaning
use Rattle.machine.specs.Tables.{Tables}
use Rattle.machine.specs.Translation.{translate}
use Rattle.run.specs.declared.answer.Answer.{Answer}
use Rattle.run.specs.declared.answer.Answer.TheVariants as answer
use Rattle.run.specs.declared.answer.Form.TheVariants as form
use Rattle.run.specs.declared.call.Call.{Call}
use Rattle.run.specs.declared.call.Call.TheVariants.{Write, Strike, Seal, Reopen, Translate, Judge, WriteOut}
use Rattle.run.specs.declared.refusal.Refusal.TheVariants as refusal
use Rattle.run.specs.declared.refusal.WriteRefusal.{WriteRefusal}
use Rattle.run.specs.declared.writing.Written.{Written}
use Rattle.run.specs.Histories.{step}
use Rattle.run.specs.Writing.{WritesOut}

-- recordings with values in V: their truth kind, what a value means, and their words
pub record Heard (V : Type 0) : Type 1 where
  pub kind : Kind
  pub means : V → kind.Value
  pub words : List (Word V)

abbrev pub heard : {V R : Type 0} (K : Kind) → (V → K.Value) → (R → Word V) → List R → Heard V
heard K means word recordings = record { kind = K; means = means; words = map word recordings }

-- what the caller lends: the machine place, cells for either kind of recordings, rows
pub record Lent (V W : Type 0) : Type 0 where
  pub machine : Tables
  pub cells : List V
  pub bits : List W
  pub rows : List ℕ

abbrev pub lent : {V W : Type 0} → Tables → List V → List W → List ℕ → Lent V W
lent machine cells bits rows = record { machine = machine; cells = cells; bits = bits; rows = rows }

-- P of the item at i, or Q where there is none
abbrev pub On : {X : Type 0} → List X → ℕ → (X → Type 0) → Type 0 → Type 0
On [] i P Q = Q
On (x ∷ xs) zero P Q = P x
On (x ∷ xs) (suc i) P Q = On xs i P Q

module _ {V W : Type 0} where
  -- the ledger's answer; what it refuses by number the sheet refuses, by the refusal that has this number
  abbrev pub Told : ledger.Answer → Answer V W → Type 0
  Told (ledger.Written n) a = a ≡ answer.Line n
  Told ledger.Done a = a ≡ answer.Done
  Told (ledger.Refused n) a = (e : sheet.Refusal) × (a ≡ answer.Refused (refusal.Sheet e)) × (number_of e ≡ n)

  -- what writing a line, striking, judging and writing out answer
  abbrev pub told_line : Result ℕ sheet.Refusal → Answer V W
  told_line (Ok n) = answer.Line n
  told_line (Err e) = answer.Refused (refusal.Sheet e)

  abbrev pub told_done : Result Unit sheet.Refusal → Answer V W
  told_done (Ok u) = answer.Done
  told_done (Err e) = answer.Refused (refusal.Sheet e)

  abbrev pub told_verdict : Result V judging.Refusal → Answer V W
  told_verdict (Ok v) = answer.Verdict v
  told_verdict (Err e) = answer.Refused (refusal.Judge e)

  abbrev pub told_run : Result (Written W) WriteRefusal → Answer V W
  told_run (Ok r) = answer.Run r
  told_run (Err e) = answer.Refused (refusal.WriteOut e)

  -- what a draft answers
  abbrev pub DraftSays : Ledger → Call → Answer V W → Type 0
  DraftSays l (Write c x y) a = Told (fed l (ledger.Write c x y)).0 a
  DraftSays l Strike a = Told (fed l ledger.Strike).0 a
  DraftSays l Seal a = Told (fed l ledger.Seal).0 a
  DraftSays l Reopen a = a ≡ answer.NotWhile form.Draft
  DraftSays l Translate a = a ≡ answer.NotWhile form.Draft
  DraftSays l (Judge i) a = a ≡ answer.NotWhile form.Draft
  DraftSays l (WriteOut i) a = a ≡ answer.NotWhile form.Draft

  -- the call answers x, and leaves all that is lent as it was
  abbrev pub Only : Answer V W → Answer V W → Lent V W → Lent V W → Type 0
  Only x a s t = (a ≡ x) × (t ≡ s)

  -- judging the lines on a word answers and leaves in the cells what it promises, and touches nothing else
  abbrev pub Judges : Heard V → List Line → Answer V W → Lent V W → Lent V W → Word V → Type 0
  Judges h lines a s t w =
      (o : Result V judging.Refusal) × (a ≡ told_verdict o) × meaning.Verdict h.kind h.means lines w (rule_of lines) 0 s.cells t.cells o
      × (t ≡ lent s.machine t.cells s.bits s.rows)

  -- so does writing out, with its own cells and the rows
  abbrev pub Writes : Heard W → List Line → Answer V W → Lent V W → Lent V W → Word W → Type 0
  Writes b lines a s t w =
      (o : Result (Written W) WriteRefusal) × (a ≡ told_run o) × WritesOut b.kind b.means lines w s.bits t.bits s.rows t.rows o
      × (t ≡ lent s.machine s.cells t.bits t.rows)

  -- on the recording of this number, where there is one
  abbrev pub JudgesNumber : Heard V → List Line → ℕ → Answer V W → Lent V W → Lent V W → Type 0
  JudgesNumber h lines i a s t = On h.words i (Judges h lines a s t) (Only answer.NoRecording a s t)

  abbrev pub WritesNumber : Heard W → List Line → ℕ → Answer V W → Lent V W → Lent V W → Type 0
  WritesNumber b lines i a s t = On b.words i (Writes b lines a s t) (Only answer.NoRecording a s t)

-- h are the recordings that can be judged, b the two-valued ones whose run can be written out
module _ {V W : Type 0} (h : Heard V) (b : Heard W) where
  -- what a call answers on a sheet with this ledger, and what it leaves of all that is lent
  abbrev pub Tells : Form → Ledger → Call → Answer V W → Lent V W → Lent V W → Type 0
  Tells Drafted l c a s t = DraftSays l c a × (t ≡ s)
  Tells Shut l (Write c x y) a s t = Only (answer.NotWhile form.Sealed) a s t
  Tells Shut l Strike a s t = Only (answer.NotWhile form.Sealed) a s t
  Tells Shut l Seal a s t = Only (answer.NotWhile form.Sealed) a s t
  Tells Shut l Reopen a s t = Told (fed l ledger.Reopen).0 a × (t ≡ s)
  Tells Shut l Translate a s t = (a ≡ answer.Done) × (t ≡ lent (translate l.lines) s.cells s.bits s.rows)
  Tells Shut l (Judge i) a s t = JudgesNumber h l.lines i a s t
  Tells Shut l (WriteOut i) a s t = WritesNumber b l.lines i a s t

  -- these calls, one after the other on a sheet with the ledger l, are answered so, and lead from s to u
  abbrev pub Story : Ledger → Lent V W → List Call → List (Answer V W) → Lent V W → Type 0
  Story l s [] [] u = u ≡ s
  Story l s [] (a ∷ answers) u = ⊥
  Story l s (c ∷ cs) [] u = ⊥
  Story l s (c ∷ cs) (a ∷ answers) u = (t : Lent V W) × Tells l.form l c a s t × Story (step l c) t cs answers u

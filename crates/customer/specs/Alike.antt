-- What a history tells of gapped recordings and of full ones.
use Rattle.std.specs.Prelude.{◌≡◌, ℕ, ◌<◌, List, length, take, slice_index_or}
use Rattle.recording.specs.Kind.{Kind}
use Rattle.recording.specs.Word.{Word, meant}
use Rattle.recording.specs.declared.truth.Ternary.{Ternary}
use Rattle.sheet.specs.declared.line.Line.{Line}
use Rattle.sheet.specs.Ledger.{Ledger, Shut}
use Rattle.laws.specs.Laws.{Settles, Fills}
use Rattle.run.specs.declared.answer.Answer.{Answer}
use Rattle.run.specs.declared.answer.Answer.TheVariants.{Verdict, Run, NoRecording}
use Rattle.run.specs.declared.call.Call.{Call}
use Rattle.run.specs.declared.call.Call.TheVariants.{Strike, Judge, WriteOut}
use Rattle.run.specs.declared.writing.Written.{Written}
use Rattle.run.specs.Histories.{after}
use Rattle.run.specs.Story.{On}

-- the ledger of a sealed sheet with these lines
abbrev pub sealed : List Line → Ledger
sealed lines = record { lines = lines; form = Shut }

-- Call m judged gapped recording i, and call n wrote out the run on recording j, of the same sealed lines. Where j fills
-- the gaps of i, a verdict that is not lost is j's too.
abbrev pub Alike : {W : Type 0} (B : Kind) → (W → B.Value) → List (Word Ternary) → List (Word W) → Ledger → List Call → List (Answer Ternary W) → Type 0
Alike {W} B means gapped full l calls answers =
    (m n i j : ℕ) (lines : List Line) (p : Ternary) (r : Written W) → m < length calls → n < length calls
    → slice_index_or calls m Strike ≡ Judge i → after l (take m calls) ≡ sealed lines → slice_index_or answers m NoRecording ≡ Verdict p
    → slice_index_or calls n Strike ≡ WriteOut j → after l (take n calls) ≡ sealed lines → slice_index_or answers n NoRecording ≡ Run r
    → On gapped i (λ w. On full j (λ v. Fills B lines w (meant means v) → Settles B p (means r.verdict)) (Unit {0})) (Unit {0})

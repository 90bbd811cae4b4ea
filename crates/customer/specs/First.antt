-- What is told of the first signal.
use Rattle.std.specs.Prelude.{◌≡◌, ◌+◌, ◌≤◌, List, length}
use Rattle.run.specs.declared.answer.Answer.{Answer}
use Rattle.run.specs.declared.answer.Answer.TheVariants.{Line, Done, Refused, Verdict, Run, NotWhile, NoRecording}
use Rattle.run.specs.Story.{Heard, On}

-- the answer is a verdict of which P holds
abbrev pub IsVerdict : {V W : Type 0} → (V → Type 0) → Answer V W → Type 0
IsVerdict P (Line n) = ⊥
IsVerdict P Done = ⊥
IsVerdict P (Refused n) = ⊥
IsVerdict P (Verdict v) = P v
IsVerdict P (Run r) = ⊥
IsVerdict P (NotWhile x) = ⊥
IsVerdict P NoRecording = ⊥

-- with enough cells the answer is a verdict, and it means signal 0 at sample 0
abbrev pub ToldFirst : {V W : Type 0} → Heard V → List V → Answer V W → Type 0
ToldFirst h cells a =
    On h.words 0 (λ w. w.stem + w.cycle ≤ length cells → IsVerdict (λ v. h.means v ≡ h.means (w.at 0 0)) a) (a ≡ NoRecording)

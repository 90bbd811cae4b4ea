-- How answers print.
use Rattle.std.specs.Prelude.{ℕ, List, ◌∷◌, ◌++◌}
use Rattle.asked.specs.Printing.{verb_text}
use Rattle.session.specs.Printing.{answer_text}
use Rattle.telling.specs.declared.told.Told.{Told}

abbrev pub told_text : Told → List ℕ
told_text t = verb_text t.verb ++ (58 ∷ answer_text t.answer)

-- How truth values print.
use Rattle.std.specs.Prelude.{ℕ, List, codes}
use Rattle.recording.specs.declared.truth.Ternary.{Ternary}
use Rattle.recording.specs.declared.truth.Ternary.TheVariants.{No, Lost, Yes}

abbrev pub truth_text : Ternary → List ℕ
truth_text No = codes "no"
truth_text Lost = codes "lost"
truth_text Yes = codes "yes"

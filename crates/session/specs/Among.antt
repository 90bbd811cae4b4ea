-- Values of the two-valued kind among the three.
use Rattle.std.specs.Prelude.{Bool, true, false}
use Rattle.recording.specs.declared.truth.Ternary.{Ternary}
use Rattle.recording.specs.declared.truth.Ternary.TheVariants.{No, Yes}

abbrev pub raised : Bool → Ternary
raised true = Yes
raised false = No

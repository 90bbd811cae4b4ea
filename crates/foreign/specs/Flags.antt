-- Flags as the two truth values.
use Rattle.std.specs.Prelude.{Bool, true, false}
use Rattle.foreign.specs.declared.kinds.Flag.{Flag}
use Rattle.foreign.specs.declared.kinds.Flag.TheVariants.{Off, On}

abbrev pub lit : Flag → Bool
lit Off = false
lit On = true

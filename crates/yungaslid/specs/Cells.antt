-- What cells mean.
use Rattle.recording.specs.declared.truth.Ternary.{Ternary}
use Rattle.yungaslid.specs.declared.cell.Cell.{Cell}
use Rattle.yungaslid.specs.Levels.{level, byte}

abbrev pub means : Cell → Ternary
means c = level c.byte

abbrev pub cell : Ternary → Cell
cell p = record { byte = byte p }

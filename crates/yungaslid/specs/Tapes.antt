-- The word that a gapped tape means where its values are told as cells.
use Rattle.recording.specs.Made.{gapped_word}
use Rattle.recording.specs.Word.{Word, meant}
use Rattle.yungaslid.specs.declared.cell.Cell.{Cell}
use Rattle.yungaslid.specs.declared.cell.tape.CellTape.{CellTape}
use Rattle.yungaslid.specs.Cells.{cell}

abbrev pub cell_word : CellTape → Word Cell
cell_word t = meant cell (gapped_word t.tape)

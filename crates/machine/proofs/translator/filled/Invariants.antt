use Rattle.sheet.specs.Sheets.{sealed_lines}
use Rattle.machine.specs.Building.{Built}
use Rattle.machine.proofs.translator.filled.Given as goal

abbrev pub invariant-loop-k : goal.invariant-loop-k
invariant-loop-k l = Built (sealed_lines l.sheet) l.k l.work

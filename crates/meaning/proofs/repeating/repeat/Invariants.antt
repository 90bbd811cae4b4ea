use Rattle.meaning.specs.Cells.{Repeated}
use Rattle.meaning.proofs.repeating.repeat.Given as goal

abbrev pub invariant-loop-t : goal.invariant-loop-t
invariant-loop-t g l = Repeated l.grid.width l.lines l.grid.cycle l.grid.samples l.t l.initial.cells l.cells

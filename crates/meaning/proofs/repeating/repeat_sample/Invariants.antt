use Rattle.std.proofs.Common.{◌+◌}
use Rattle.meaning.specs.Cells.{Repeated}
use Rattle.meaning.proofs.repeating.repeat_sample.Given as goal

abbrev pub invariant-loop-a : goal.invariant-loop-a
invariant-loop-a g l = Repeated l.grid.width l.a l.grid.cycle l.t (l.t + 1) l.initial.cells l.cells

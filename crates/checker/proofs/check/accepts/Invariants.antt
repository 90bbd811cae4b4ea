use Rattle.recording.specs.Word.{meant}
use Rattle.machine.specs.Machines.{tables}
use Rattle.checker.proofs.Walking.{Walked}
use Rattle.checker.proofs.check.accepts.Given as goal

abbrev pub invariant-loop-i : goal.invariant-loop-i
invariant-loop-i g l =
    Walked g.R.Truth.Truth.kind (tables l.machine) (meant g.R.Truth.Truth.means (g.R.Recording.word l.recording)) l.rows l.back l.i l.here l.met

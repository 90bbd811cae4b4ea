use Rattle.std.specs.Iterator.Adapters.{enumerate_source, enumerate_count, rev_source}
use Rattle.std.specs.Slice.Iter.{iter_rest}
use Rattle.sheet.specs.Sheets.{sealed_lines}
use Rattle.machine.proofs.Passing.{Passed}
use Rattle.machine.proofs.signs.pass.signs_in.Given as goal

-- the lines that are left have not handed their signs on
abbrev pub invariant-loop-k : goal.invariant-loop-k
invariant-loop-k l = Passed (sealed_lines l.sheet) (iter_rest (enumerate_source (rev_source l.k-iterator))) (enumerate_count (rev_source l.k-iterator)) l.signs

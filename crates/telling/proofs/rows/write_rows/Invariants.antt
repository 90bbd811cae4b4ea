use Rattle.std.proofs.Common.{◌≡◌, ℕ, ◌-◌, List, ◌++◌}
use Rattle.std.specs.Fmt.{IsPlainFormatter, HasWritten}
use Rattle.telling.specs.Truths.{rows_text}
use Rattle.telling.proofs.rows.write_rows.Given as goal

-- what was written, and with the samples that are left it is the text
abbrev pub invariant-loop-t : goal.invariant-loop-t
invariant-loop-t g l =
    (bs : List ℕ) × (IsPlainFormatter l.initial.f → HasWritten g.W.Write.write_str_gives l.initial.f bs l.f) × (bs ++ rows_text g.T.AmongThree.three (l.samples - l._t) l.lines l.rest ≡ rows_text g.T.AmongThree.three l.samples l.lines l.cells)

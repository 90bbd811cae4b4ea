use Rattle.std.proofs.Common.{◌≡◌, ℕ, List, ◌++◌, drop}
use Rattle.std.specs.Fmt.{IsPlainFormatter, HasWritten}
use Rattle.tables.specs.Text.{rows_text}
use Rattle.tables.proofs.row.write_rows.Given as goal

-- what was written, and with the rows that are left it is the table
abbrev pub invariant-loop-number : goal.invariant-loop-number
invariant-loop-number g l =
    (bs : List ℕ) × (IsPlainFormatter l.initial.f → HasWritten g.W.Write.write_str_gives l.initial.f bs l.f) × (bs ++ rows_text g.T.Row.text l.number (drop l.number l.rows) ≡ rows_text g.T.Row.text 0 l.rows)

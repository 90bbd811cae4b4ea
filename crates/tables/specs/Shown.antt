-- What is printed of a machine that is lent.
use Rattle.std.specs.Prelude.{ℕ, List}
use Rattle.machine.specs.Machines.{tables}
use Rattle.tables.specs.declared.printed.Printed.{Printed}
use Rattle.tables.specs.Text.{tables_text}

abbrev pub printed_text : Printed → List ℕ
printed_text p = tables_text (tables p.machine.now)

-- The tables that a machine place holds.
use Rattle.machine.specs.declared.place.Machine.{Machine}
use Rattle.machine.specs.Tables.{Tables, counted}

abbrev pub tables : Machine → Tables
tables m = counted m.gates m.gate_count m.variables m.variable_count m.pairs m.pair_count m.root

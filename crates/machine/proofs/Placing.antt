-- The tables that a machine place holds.
use Rattle.std.proofs.Common.{◌≡◌, length, arith}
use Rattle.std.proofs.lemmas.List.{length-take-le}
use Rattle.machine.specs.declared.place.Machine.{Machine}
use Rattle.machine.specs.Machines.{tables}

pub variables_counted : (m : Machine) → length (tables m).variables ≡ m.variable_count
variables_counted m = length-take-le m.variable_count m.variables (omega (arith, m.within.1, m.sized.1))

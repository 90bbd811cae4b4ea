-- The numbers and places of the faults of a rule text.
use Rattle.std.specs.Prelude.{ℕ, Ok, Err, Result}
use Rattle.sheet.specs.Refusals.{number_of}
use Rattle.text.specs.declared.fault.Fault.{Fault}
use Rattle.text.specs.declared.fault.Fault.TheVariants.{Byte, Early, Unknown, Deep, After, Long, Sheet}
use Rattle.text.specs.declared.fault.Placed.{Placed}

-- a refusal of the sheet has its own number
abbrev pub fault_number : Fault → ℕ
fault_number (Byte at) = 12
fault_number (Early at) = 13
fault_number (Unknown at) = 14
fault_number (Deep at) = 15
fault_number (After at) = 16
fault_number Long = 17
fault_number (Sheet refusal at) = number_of refusal

abbrev pub fault_place : Fault → ℕ
fault_place (Byte at) = at
fault_place (Early at) = at
fault_place (Unknown at) = at
fault_place (Deep at) = at
fault_place (After at) = at
fault_place Long = 4096
fault_place (Sheet refusal at) = at

-- an error gets its place, and a value stays
abbrev pub placed : {T E : Type 0} → Result T E → ℕ → Result T (Placed E)
placed (Ok x) n = Ok x
placed (Err e) n = Err (record { error = e; at = n })

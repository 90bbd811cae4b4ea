-- What a call answers a C caller: a value, or a refusal by its number and its place.
use Rattle.std.specs.Prelude.{ℕ, ◌-◌, ◌^◌, Some, None, Ok, Err, Option, Result}
use Rattle.lexer.specs.Names.{names_number}
use Rattle.lexer.specs.declared.names.NamesRefusal.{NamesRefusal}
use Rattle.recording.specs.Refusals.{tape_number}
use Rattle.recording.specs.declared.refusal.TapeRefusal.{TapeRefusal}
use Rattle.text.specs.Faults.{fault_number, fault_place}
use Rattle.text.specs.declared.fault.Fault.{Fault}
use Rattle.meaning.specs.Refusals as judging
use Rattle.meaning.specs.declared.refusal.Refusal.{Refusal}
use Rattle.checker.specs.Refusals as checking
use Rattle.checker.specs.declared.refusal.CheckRefusal.{CheckRefusal}
use Rattle.yungaslid.specs.declared.answer.Answer.{Answer}

-- the place of what has none
abbrev pub nowhere : ℕ
nowhere = 2 ^ 64 - 1

abbrev pub placed : Option ℕ → ℕ
placed None = nowhere
placed (Some place) = place

abbrev pub answered : ℕ → Answer
answered v = record { number = 0; place = nowhere; value = v }

abbrev pub refused : ℕ → Option ℕ → Answer
refused number place = record { number = number; place = placed place; value = 0 }

-- the refusals of all layers, each with its own number
abbrev pub refused_names : NamesRefusal → Answer
refused_names e = refused (names_number e) None

abbrev pub refused_tape : TapeRefusal → Answer
refused_tape e = refused (tape_number e) None

abbrev pub refused_text : Fault → Answer
refused_text f = refused (fault_number f) (Some (fault_place f))

abbrev pub refused_judging : Refusal → Answer
refused_judging e = refused (judging.number_of e) None

abbrev pub refused_check : CheckRefusal → Answer
refused_check e = refused (checking.number_of e) None

-- the text was not printed
abbrev pub unprinted : Answer
unprinted = refused 20 None

-- how a result is told
abbrev pub told : Result ℕ Answer → Answer
told (Ok v) = answered v
told (Err a) = a

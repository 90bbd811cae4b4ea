-- The refusals of a bench file, by their numbers among the refused calls, and the lines that they name.
use Rattle.std.specs.Prelude.{ℕ, Some, None, Option}
use Rattle.lexer.specs.Names.{names_number}
use Rattle.bench_file.specs.declared.refusal.FileRefusal.{FileRefusal}
use Rattle.bench_file.specs.declared.refusal.FileRefusal.TheVariants.{Form, Naming}

abbrev pub file_number : FileRefusal → ℕ
file_number (Form line) = 19
file_number (Naming refusal) = names_number refusal

abbrev pub file_place : FileRefusal → Option ℕ
file_place (Form line) = Some line
file_place (Naming refusal) = None

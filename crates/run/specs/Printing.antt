-- How the form of a sheet prints.
use Rattle.std.specs.Prelude.{ℕ, List, codes}
use Rattle.run.specs.declared.answer.Form.{Form}
use Rattle.run.specs.declared.answer.Form.TheVariants as form

abbrev pub form_text : Form → List ℕ
form_text form.Draft = codes "draft"
form_text form.Sealed = codes "sealed"

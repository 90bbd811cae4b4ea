-- What a draft keeps while lines are written into it.
use Rattle.std.specs.Prelude.{◌≡◌, List, ◌++◌}
use Rattle.sheet.specs.declared.line.Line.{Line}

-- lines were added, and none changed
abbrev pub Grown : List Line → List Line → Type 0
Grown before after = (more : List Line) × (after ≡ before ++ more)

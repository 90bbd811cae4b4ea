-- How the name of a call prints.
use Rattle.std.specs.Prelude.{ℕ, List, codes}
use Rattle.asked.specs.declared.call.Verb.{Verb}
use Rattle.asked.specs.declared.call.Verb.TheVariants as verb

abbrev pub verb_text : Verb → List ℕ
verb_text verb.Write = codes "write"
verb_text verb.Strike = codes "strike"
verb_text verb.Seal = codes "seal"
verb_text verb.Reopen = codes "reopen"
verb_text verb.Translate = codes "translate"
verb_text verb.Tape = codes "tape"
verb_text verb.Gapped = codes "gapped"
verb_text verb.Wheel = codes "wheel"
verb_text verb.Cells = codes "cells"
verb_text verb.Rows = codes "rows"
verb_text verb.Judge = codes "judge"
verb_text verb.Run = codes "run"
verb_text verb.Check = codes "check"

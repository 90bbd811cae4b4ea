-- The tables of a work that is filled are the translation.
use Rattle.std.proofs.Common.{◌≡◌, ℕ, ◌<◌, List, length, take, ◌∙◌, arith}
use Rattle.sheet.specs.declared.line.Line.{Line}
use Rattle.meaning.specs.Sheet.{rule_of}
use Rattle.machine.specs.declared.gate.Gate.{Gate}
use Rattle.machine.specs.declared.gate.Pair.{Pair}
use Rattle.machine.specs.declared.gate.Variable.{Variable}
use Rattle.machine.specs.declared.work.Work.{Work}
use Rattle.machine.specs.Building.{Built}
use Rattle.machine.specs.Tables.{counted}
use Rattle.machine.specs.Translation.{translate}
use Rattle.machine.specs.Working.{place_in}

pub filled_is : (lines : List Line) (w : Work) → 0 < length lines → Built lines (length lines) w
    → (gates : List Gate) (g : ℕ) → take g gates ≡ w.gates
    → (variables : List Variable) (v : ℕ) → take v variables ≡ w.variables
    → (pairs : List Pair) (p : ℕ) → take p pairs ≡ w.pairs
    → counted gates g variables v pairs p (place_in w (rule_of lines)) ≡ translate lines
filled_is lines w some built gates g gs variables v vs pairs p ps =
    λ i. record {
      gates = (gs ∙ built.gates) i;
      variables = (vs ∙ built.variables) i;
      pairs = (ps ∙ built.pairs) i;
      root = built.places (rule_of lines) (omega arith) i;
    }

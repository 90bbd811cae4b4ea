-- How far a work is filled.
use Rattle.std.specs.Prelude.{◌≡◌, ℕ, ◌<◌, List, length}
use Rattle.sheet.specs.declared.line.Line.{Line}
use Rattle.sheet.specs.Table.{line}
use Rattle.meaning.specs.Sheet.{rule_of}
use Rattle.machine.specs.declared.work.Work.{Work}
use Rattle.machine.specs.Translation.{joined, place, gate_lists, variable_lists, pair_lists}
use Rattle.machine.specs.Working.{place_in}

-- the first k lines are in the work
pub record Built (lines : List Line) (k : ℕ) (w : Work) : Type 0 where
  pub gates : w.gates ≡ joined (gate_lists (line lines) (length lines) (rule_of lines)) k
  pub variables : w.variables ≡ joined (variable_lists (line lines) (length lines) (rule_of lines)) k
  pub pairs : w.pairs ≡ joined (pair_lists (line lines) (length lines) (rule_of lines)) k
  pub places : (j : ℕ) → j < k → place_in w j ≡ place (line lines) (length lines) (rule_of lines) j
  pub room : length w.places ≡ 64

use Rattle.laws.proofs.Theorems.{check_law}
use Rattle.laws.proofs.runs.check_decides.Goals as goal

pub returns : goal.returns
returns g c = check_law g.T.Truth.kind

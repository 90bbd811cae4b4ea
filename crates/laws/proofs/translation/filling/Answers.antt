use Rattle.laws.proofs.Theorems.{filling_law}
use Rattle.laws.proofs.translation.filling.Goals as goal

pub returns : goal.returns
returns g c = filling_law g.T.Truth.kind

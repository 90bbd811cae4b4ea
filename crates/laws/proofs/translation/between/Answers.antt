use Rattle.laws.proofs.Theorems.{between_law}
use Rattle.laws.proofs.translation.between.Goals as goal

pub returns : goal.returns
returns g c = between_law g.B.Truth.kind c.is_yes.ensures.two

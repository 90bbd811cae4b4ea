use Rattle.laws.proofs.Theorems.{exact_law}
use Rattle.laws.proofs.translation.exact.Goals as goal

pub returns : goal.returns
returns g c = exact_law g.B.Truth.kind c.is_yes.ensures.two

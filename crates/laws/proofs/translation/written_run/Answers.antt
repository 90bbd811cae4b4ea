use Rattle.laws.proofs.Theorems.{written_law}
use Rattle.laws.proofs.translation.written_run.Goals as goal

pub returns : goal.returns
returns g c = written_law g.B.Truth.kind c.is_yes.ensures.two

use Rattle.examples.proofs.Tried.{worked}
use Rattle.examples.proofs.worked_examples.Goals as goal

pub returns : goal.returns
returns g c = worked g.B.Truth.kind c.is_yes.ensures.two

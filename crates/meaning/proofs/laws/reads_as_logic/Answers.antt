use Rattle.meaning.proofs.laws.reads_as_logic.Goals as goal
use Rattle.meaning.proofs.Reading.{reads_as_logic}

pub returns : goal.returns
returns g c = reads_as_logic g.T.Truth.kind c.is_yes.ensures.two

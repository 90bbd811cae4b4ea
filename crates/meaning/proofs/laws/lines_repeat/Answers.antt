use Rattle.meaning.proofs.laws.lines_repeat.Goals as goal
use Rattle.meaning.proofs.Period.{period}

pub returns : goal.returns
returns g c = period g.T.Truth.kind

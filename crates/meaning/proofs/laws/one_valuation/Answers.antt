use Rattle.meaning.proofs.laws.one_valuation.Goals as goal
use Rattle.meaning.proofs.OneValue.{unique}

pub returns : goal.returns
returns g c = unique g.T.Truth.kind

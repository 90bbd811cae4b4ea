use Rattle.meaning.proofs.laws.has_valuation.Goals as goal
use Rattle.meaning.proofs.Build.{exists}

pub returns : goal.returns
returns g c = exists g.T.Truth.kind

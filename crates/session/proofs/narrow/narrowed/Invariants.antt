use Rattle.std.proofs.Common.{take, Ok, vec_items}
use Rattle.std.specs.List.{AllZip}
use Rattle.session.proofs.narrow.narrowed.Given as goal

abbrev pub invariant-loop-n : goal.invariant-loop-n
invariant-loop-n g l = AllZip (λ n x. g.T.TryFrom.try_from_gives n (Ok x)) (take l.n-index l.numbers) (vec_items l.found)

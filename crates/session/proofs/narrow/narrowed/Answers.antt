use Rattle.std.proofs.Common.{Ok, vec_items, subst, arith}
use Rattle.std.specs.List.{AllZip}
use Rattle.std.proofs.lemmas.List.{take_all}
use Rattle.session.proofs.Narrowing.{one_more}
use Rattle.session.proofs.narrow.narrowed.Goals as goal

pub returns-in_default : goal.returns-in_default
returns-in_default g c = (c.loop-n.n-index, omega arith, c.in_default.field-0, c.in_default.ensures)

pub loop-n-preserved : goal.loop-n-preserved
loop-n-preserved g c =
    one_more (λ n x. g.T.TryFrom.try_from_gives n (Ok x)) c.args.numbers.now c.loop-n.n-index (vec_items c.loop-n.found) _ c.in-Ok.x (omega arith) c.in_ok-push.ensures.items c.loop-n.invariant c.in-Ok.ensures

pub returns : goal.returns
returns g c =
    subst (λ ns. AllZip (λ n x. g.T.TryFrom.try_from_gives n (Ok x)) ns (vec_items c.loop-n.found)) (take_all c.loop-n.n-index c.args.numbers.now (omega arith)) c.loop-n.invariant

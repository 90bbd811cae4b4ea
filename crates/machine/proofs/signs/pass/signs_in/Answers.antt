use Rattle.std.proofs.Common.{ap, ◌∙◌}
use Rattle.std.specs.Iterator.Adapters.{enumerate_source, enumerate_count, rev_source}
use Rattle.std.specs.Slice.Iter.{iter_rest}
use Rattle.machine.proofs.Passing.{passed_none, passed_more}
use Rattle.machine.proofs.signs.pass.signs_in.Goals as goal

pub loop-k-init : goal.loop-k-init
loop-k-init c =
    let l = c.lines-lines.ensures in
    let behind = ap rev_source c.into_iter-k-iterator.ensures.into_iter_gives ∙ c.rev-k-items.ensures.source in
    rw (← l.are) (passed_none _ _ _ _ (ap (λ s. iter_rest (enumerate_source s)) behind ∙ ap iter_rest c.enumerate.ensures.source ∙ c.iter.ensures.rest) (ap enumerate_count behind ∙ c.enumerate.ensures.count) c.default-signs.ensures l.some l.few)

pub loop-k-preserved : goal.loop-k-preserved
loop-k-preserved c =
    let step = c.in-Some.ensures.steps in
    passed_more _ _ _ _ _ _ _ _ _ c.loop-k.invariant step.1.0 step.1.1 step.0 c.hand_on.ensures

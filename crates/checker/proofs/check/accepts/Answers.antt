use Rattle.std.proofs.Common.{false, length, get_or, sym, refl, ap, ◌∙◌, arith, ◌≡◌}
use mathlib.Core.Bool.{false≢true}
use Rattle.checker.proofs.Walking.{asked_by, walked_none, walked_more, accepted_kept, accepted_root, accepted_starts, accepted_met, all_accepted}
use Rattle.checker.proofs.check.accepts.Goals as goal
use Rattle.checker.proofs.check.accepts.Goals.{then-not-first-root-via-then-not-first-root, then-not-first-root-via-else-not-first-root+then-not-all_start}

pub returns-then-not-first-root : goal.returns-then-not-first-root
returns-then-not-first-root g c =
    let asked = asked_by g.R.Truth.Truth.kind g.R.Truth.Truth.means c.args.rows.now c.root-root.ensures.sound.0 c.requires.named c.requires.shape in (
      λ e. absurd (false≢true e),
      λ a.
          elim c.then-not-first-root.branch [
            | then-not-first-root-via-then-not-first-root w ↦
                (sym w.if-not-first-root.true ∙ ap (λ r. get_or c.moment_of-first.result.values r false) c.root-root.ensures.is
                ∙ accepted_root asked c.moment_of-first.ensures a)
            | then-not-first-root-via-else-not-first-root+then-not-all_start w ↦ w.if-not-all_start.ensures.1 (accepted_starts asked c.moment_of-first.ensures a)
          ],
    )

pub loop-i-init : goal.loop-i-init
loop-i-init g c =
    let asked = asked_by g.R.Truth.Truth.kind g.R.Truth.Truth.means c.args.rows.now c.root-root.ensures.sound.0 c.requires.named c.requires.shape in
    walked_none asked c.moment_of-first.ensures

pub loop-i-preserved : goal.loop-i-preserved
loop-i-preserved g c =
    let asked = asked_by g.R.Truth.Truth.kind g.R.Truth.Truth.means c.args.rows.now c.root-root.ensures.sound.0 c.requires.named c.requires.shape in
    walked_more asked c.loop-i-test.true c.loop-i.invariant c.after_row-next.ensures c.moment_of-there.ensures
    c.note_met.new.met (c.if-not-all_keep.ensures.0 refl) c.note_met.array_long c.note_met.ensures

pub returns-then-not-all_keep : goal.returns-then-not-all_keep
returns-then-not-all_keep g c =
    let asked = asked_by g.R.Truth.Truth.kind g.R.Truth.Truth.means c.args.rows.now c.root-root.ensures.sound.0 c.requires.named c.requires.shape in (
      λ e. absurd (false≢true e),
      λ a. c.if-not-all_keep.ensures.1 (accepted_kept asked c.loop-i-test.true c.loop-i.invariant c.after_row-next.ensures c.moment_of-there.ensures a),
    )

pub returns : goal.returns
returns g c =
    let asked = asked_by g.R.Truth.Truth.kind g.R.Truth.Truth.means c.args.rows.now c.root-root.ensures.sound.0 c.requires.named c.requires.shape in
    let end : c.loop-i.i ≡ length c.args.rows.now = omega arith in (
      λ e.
          all_accepted asked end c.loop-i.invariant c.moment_of-first.ensures
          c.is_yes.ensures.two (ap (λ r. get_or c.moment_of-first.result.values r false) (sym c.root-root.ensures.is) ∙ c.if-not-first-root.false) (c.if-not-all_start.ensures.0 refl) (c.all_met.ensures.0 e),
      λ a. c.all_met.ensures.1 (accepted_met asked end c.loop-i.invariant a),
    )

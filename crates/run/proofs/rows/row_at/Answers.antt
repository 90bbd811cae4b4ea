use Rattle.std.proofs.Common.{◌≡◌, ◌+◌, true, ◌↔◌, sym, ◌∙◌, subst, arith}
use Rattle.run.specs.Packing.{Packed}
use Rattle.run.proofs.Filling.{told_used, own_one, own_none, unused_none, own_variables, packed_more, packed_same}
use Rattle.run.proofs.rows.row_at.Goals as goal
use Rattle.run.proofs.rows.row_at.Goals.{then-is_used+then-has_variable, else-is_used, else-is_used-via-then-is_used+else-has_variable, else-is_used-via-else-is_used}

pub loop-k-preserved : goal.loop-k-preserved
loop-k-preserved g c =
    let truth = g.T.Truth in
    let lines = c.args.lines.now in
    let k = c.loop-k.k in
    let so_far = c.loop-k.invariant in
    let used = told_used lines c.args.signs.now c.requires.signed k c.is_used.result c.is_used.ensures in
    elim c.if-is_used.branch [
      | then-is_used+then-has_variable w ↦
          let own = own_one lines k c.is_used.result w.has_variable.result used w.has_variable.ensures w.if-is_used.true w.if-has_variable.true in
          let p = packed_more lines truth.kind truth.means c.args.cells.now k c.args.sample c.loop-k.row c.loop-k.name so_far.1 so_far.0 w.is_yes.result own
          (λ d. subst (λ v. (w.is_yes.result ≡ true) ↔ (v ≡ truth.kind.Yes)) (w.shown_at-value.ensures d) w.is_yes.ensures.exactly) in (
            subst (Packed truth.kind truth.means lines c.args.cells.now (k + 1) c.args.sample) (sym (w.row-is ∙ w.with_bit-row.ensures)) p.0,
            w.name-is ∙ p.1,
            omega (arith, w.name-is, so_far.2),
          )
      | else-is_used w ↦
          let own =
          elim w.else-is_used.branch as (λ _. own_variables lines k ≡ 0) [
            | else-is_used-via-then-is_used+else-has_variable v ↦ own_none lines k v.has_variable.result v.has_variable.ensures v.if-has_variable.false
            | else-is_used-via-else-is_used v ↦ unused_none lines k c.is_used.result used v.if-is_used.false
          ] in
          let p = packed_same lines truth.kind truth.means c.args.cells.now k c.args.sample c.loop-k.row c.loop-k.name so_far.1 so_far.0 own in (
            subst (Packed truth.kind truth.means lines c.args.cells.now (k + 1) c.args.sample) (sym w.row-is) p.0,
            w.name-is ∙ p.1,
            omega (arith, w.name-is, so_far.2),
          )
    ]

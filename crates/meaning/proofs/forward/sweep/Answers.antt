use Rattle.std.proofs.Common.{◌≡◌, ◌-◌, ap, ◌∙◌, ap₂, arith}
use Rattle.meaning.proofs.Sweeps.{pass_down, pass_none}
use Rattle.meaning.specs.Cells.{column}
use Rattle.meaning.specs.Judging.{pass}
use Rattle.meaning.proofs.forward.sweep.Goals as goal

pub carry-held-requires : goal.carry-held-requires
carry-held-requires g c =
    record {
      left = omega (arith, c.requires.room (c.loop-t.t - 1) c.args.left (omega arith) (omega arith));
      right = omega (arith, c.requires.room (c.loop-t.t - 1) c.args.right (omega arith) (omega arith));
    }

pub loop-t-init : goal.loop-t-init
loop-t-init g c = (omega arith, λ d. pass_none g.T.Truth.kind (column g.T.Truth.means c.args.cells.now c.args.grid.width c.args.left d) (column g.T.Truth.means c.args.cells.now c.args.grid.width c.args.right d) c.args.grid.samples (g.T.Truth.means c.args.start))

pub loop-t-preserved : goal.loop-t-preserved
loop-t-preserved g c =
    let K = g.T.Truth in
    let left = λ (d : g.row.T.Denot). column K.means c.args.cells.now c.args.grid.width c.args.left d in
    let right = λ (d : g.row.T.Denot). column K.means c.args.cells.now c.args.grid.width c.args.right d in (
      omega arith,
      λ d. c.carry-held.ensures d
          ∙ ap (λ z. K.kind.Or (right d (c.loop-t.t - 1)) (K.kind.And (left d (c.loop-t.t - 1)) z)) (c.loop-t.invariant.1 d)
          ∙ pass_down K.kind (left d) (right d) c.args.grid.samples c.loop-t.t (K.means c.args.start) (omega arith) (omega arith),
    )

pub returns : goal.returns
returns g c =
    let K = g.T.Truth in
    let e : c.loop-t.t ≡ c.args.grid.samples - c.args.grid.cycle = omega arith in
    let n : c.args.grid.samples - c.loop-t.t ≡ c.args.grid.cycle = omega arith in
    λ d. c.loop-t.invariant.1 d
    ∙ ap₂ (λ s m. pass K.kind (column K.means c.args.cells.now c.args.grid.width c.args.left d) (column K.means c.args.cells.now c.args.grid.width c.args.right d) s m (K.means c.args.start)) e n

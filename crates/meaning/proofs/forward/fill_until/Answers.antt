use Rattle.std.proofs.Common.{◌≡◌, ℕ, ◌-◌, ap, ◌∙◌, subst, ap₂, arith}
use Rattle.meaning.proofs.Filling.{fills_none, read_column, filled_down, filled_as}
use Rattle.meaning.proofs.Sweeps.{pass_down, pass_none}
use Rattle.meaning.specs.Cells.{column, Fills}
use Rattle.meaning.specs.Judging.{pass}
use Rattle.meaning.proofs.forward.fill_until.Goals as goal

pub carry-held-requires : goal.carry-held-requires
carry-held-requires g c =
    record {
      left = omega (arith, c.requires.column.room (c.loop-t.t - 1) c.args.left (omega arith) (omega arith));
      right = omega (arith, c.requires.column.room (c.loop-t.t - 1) c.args.right (omega arith) (omega arith));
    }

pub put-requires : goal.put-requires
put-requires g c = omega (arith, c.requires.column.room (c.loop-t.t - 1) c.args.line (omega arith) (omega arith))

pub loop-t-init : goal.loop-t-init
loop-t-init g c = (
  fills_none _ _ _ (omega arith) _ _ c.args.grid.samples,
  λ d. pass_none g.T.Truth.kind (column g.T.Truth.means c.args.cells.now c.args.grid.width c.args.left d) (column g.T.Truth.means c.args.cells.now c.args.grid.width c.args.right d) c.args.grid.samples (g.T.Truth.means c.sweep-held.result),
)

pub loop-t-preserved : goal.loop-t-preserved
loop-t-preserved g c =
    let K = g.T.Truth in
    let left = λ (d : g.row.T.Denot). column K.means c.args.cells.now c.args.grid.width c.args.left d in
    let right = λ (d : g.row.T.Denot). column K.means c.args.cells.now c.args.grid.width c.args.right d in
    let value : (d : g.row.T.Denot) → K.means c.carry-held.result ≡ pass K.kind (left d) (right d) (c.loop-t.t - 1) (c.args.grid.samples - (c.loop-t.t - 1)) (K.means c.sweep-held.result) =
    λ d. c.carry-held.ensures d
    ∙ ap₂ K.kind.Or (read_column (omega arith) c.loop-t.invariant.0 c.args.right (c.loop-t.t - 1) (omega arith) d)
    (ap₂ K.kind.And (read_column (omega arith) c.loop-t.invariant.0 c.args.left (c.loop-t.t - 1) (omega arith) d) (c.loop-t.invariant.1 d))
    ∙ pass_down K.kind (left d) (right d) c.args.grid.samples c.loop-t.t (K.means c.sweep-held.result) (omega arith) (omega arith) in
    (filled_down (omega arith) (omega arith) (omega arith) (omega (arith, c.requires.column.room (c.loop-t.t - 1) c.args.line (omega arith) (omega arith))) c.loop-t.invariant.0 c.put.ensures value, value)

pub returns : goal.returns
returns g c =
    let K = g.T.Truth in
    let left = λ (d : g.row.T.Denot). column K.means c.args.cells.now c.args.grid.width c.args.left d in
    let right = λ (d : g.row.T.Denot). column K.means c.args.cells.now c.args.grid.width c.args.right d in
    let back : ℕ = c.args.grid.samples - c.args.grid.cycle in
    let e : c.loop-t.t ≡ 0 = omega arith in
    let m : c.args.grid.cycle ≡ c.args.grid.samples - (c.args.grid.samples - c.args.grid.cycle) = omega arith in
    filled_as (λ d t _ _. ap (pass K.kind (left d) (right d) t (c.args.grid.samples - t)) (c.sweep-held.ensures d ∙ ap (λ n. pass K.kind (left d) (right d) back n (K.means c.args.start)) m))
    (subst (λ s. Fills K.means c.args.grid.width c.args.line c.args.cells.now (λ d t. pass K.kind (left d) (right d) t (c.args.grid.samples - t) (K.means c.sweep-held.result)) s c.args.grid.samples c.loop-t.cells) e c.loop-t.invariant.0)

use Rattle.std.proofs.Common.{◌≡◌, ℕ, ◌+◌, ◌-◌, ◌*◌, ◌<◌, ◌≤◌, length, get_or, set, sym, refl, ap, ◌∙◌, subst, arith}
use mathlib.Core.Path.{transport}
use Rattle.std.proofs.lemmas.Nat.{mul-le}
use Rattle.recording.specs.Word.{meant}
use Rattle.sheet.specs.Table.{line, pasts}
use Rattle.meaning.specs.Cells.{column, Fills, Repeated}
use Rattle.meaning.specs.Columns.{written}
use Rattle.meaning.specs.Verdict.{horizon}
use Rattle.meaning.proofs.Build.{exists}
use Rattle.meaning.proofs.OneValue.{unique}
use Rattle.meaning.proofs.Period.{period_below}
use Rattle.meaning.proofs.Rows.{Columns, further_more}
use Rattle.meaning.proofs.Deep.{Steady, turn_is, roomy, reach_more, reach_longer, reach_all, level_more, deep_more, steady_by, columns_at, columns_longer, further_longer}
use Rattle.meaning.proofs.evaluator.judge_lines.Goals as goal

pub overflow_add-depth : goal.overflow_add-depth
overflow_add-depth g c =
    let w = g.R.Recording.word c.args.recording.now in
    let e = c.in_ok-extent.ensures in
    let turn = turn_is g.R.Truth.Truth.kind g.R.Truth.Truth.means w c.requires.sheet c.requires.few e.has_signals c.loop-k-test.true c.loop-k.invariant.2 c.loop-k.invariant.3 c.depth_under.ensures c.looks_back.ensures c.from.ensures refl in
    omega (arith, turn.small)

pub overflow_mul-count : goal.overflow_mul-count
overflow_mul-count g c =
    let w = g.R.Recording.word c.args.recording.now in
    let e = c.in_ok-extent.ensures in
    let turn = turn_is g.R.Truth.Truth.kind g.R.Truth.Truth.means w c.requires.sheet c.requires.few e.has_signals c.loop-k-test.true c.loop-k.invariant.2 c.loop-k.invariant.3 c.depth_under.ensures c.looks_back.ensures c.from.ensures c.saturating_sub-deeper.ensures in
    omega (arith, turn.turn, ap (λ m. c.saturating_sub-deeper.result * m) c.cycle-cycle.ensures, w.sizes.4)

pub invariant_of-repeat : goal.invariant_of-repeat
invariant_of-repeat g c =
    let w = g.R.Recording.word c.args.recording.now in
    let e = c.in_ok-extent.ensures in
    let turn = turn_is g.R.Truth.Truth.kind g.R.Truth.Truth.means w c.requires.sheet c.requires.few e.has_signals c.loop-k-test.true c.loop-k.invariant.2 c.loop-k.invariant.3 c.depth_under.ensures c.looks_back.ensures c.from.ensures c.saturating_sub-deeper.ensures in
    let ec = ap (λ m. c.saturating_sub-deeper.result * m) c.cycle-cycle.ensures in
    record {
      some = omega (arith, w.sizes.3, c.cycle-cycle.ensures);
      whole = omega (arith, c.loop-k.invariant.2, c.cycle-cycle.ensures);
      few = omega (arith, turn.within, e.few, e.samples);
    }

pub repeat-requires : goal.repeat-requires
repeat-requires g c =
    let w = g.R.Recording.word c.args.recording.now in
    let e = c.in_ok-extent.ensures in
    let turn = turn_is g.R.Truth.Truth.kind g.R.Truth.Truth.means w c.requires.sheet c.requires.few e.has_signals c.loop-k-test.true c.loop-k.invariant.2 c.loop-k.invariant.3 c.depth_under.ensures c.looks_back.ensures c.from.ensures c.saturating_sub-deeper.ensures in
    let ec = ap (λ m. c.saturating_sub-deeper.result * m) c.cycle-cycle.ensures in
    record {
      room = roomy c.args.lines.now w c.loop-k.cells _ (omega (arith, e.room, c.loop-k.auto.cells)) (omega (arith, turn.within, ec));
      lines = omega (arith, c.loop-k-test.true);
      turn = omega (arith, turn.turn, ec, c.cycle-cycle.ensures);
    }

pub overflow_add-samples-in-loop-k : goal.overflow_add-samples-in-loop-k
overflow_add-samples-in-loop-k g c =
    let w = g.R.Recording.word c.args.recording.now in
    let e = c.in_ok-extent.ensures in
    let turn = turn_is g.R.Truth.Truth.kind g.R.Truth.Truth.means w c.requires.sheet c.requires.few e.has_signals c.loop-k-test.true c.loop-k.invariant.2 c.loop-k.invariant.3 c.depth_under.ensures c.looks_back.ensures c.from.ensures c.saturating_sub-deeper.ensures in
    let ec = ap (λ m. c.saturating_sub-deeper.result * m) c.cycle-cycle.ensures in
    omega (arith, turn.within, ec, e.few, e.samples)

pub overflow_add-deepest : goal.overflow_add-deepest
overflow_add-deepest g c =
    let w = g.R.Recording.word c.args.recording.now in
    let e = c.in_ok-extent.ensures in
    let turn = turn_is g.R.Truth.Truth.kind g.R.Truth.Truth.means w c.requires.sheet c.requires.few e.has_signals c.loop-k-test.true c.loop-k.invariant.2 c.loop-k.invariant.3 c.depth_under.ensures c.looks_back.ensures c.from.ensures c.saturating_sub-deeper.ensures in
    omega (arith, turn.few)

pub invariant_of-fill_line : goal.invariant_of-fill_line
invariant_of-fill_line g c =
    let w = g.R.Recording.word c.args.recording.now in
    let e = c.in_ok-extent.ensures in
    let turn = turn_is g.R.Truth.Truth.kind g.R.Truth.Truth.means w c.requires.sheet c.requires.few e.has_signals c.loop-k-test.true c.loop-k.invariant.2 c.loop-k.invariant.3 c.depth_under.ensures c.looks_back.ensures c.from.ensures c.saturating_sub-deeper.ensures in
    let ec = ap (λ m. c.saturating_sub-deeper.result * m) c.cycle-cycle.ensures in
    record {
      some = omega (arith, w.sizes.3, c.cycle-cycle.ensures);
      whole = omega (arith, c.loop-k.invariant.2, c.cycle-cycle.ensures);
      few = omega (arith, turn.within, ec, e.few, e.samples);
    }

pub fill_line-requires : goal.fill_line-requires
fill_line-requires g c =
    let w = g.R.Recording.word c.args.recording.now in
    let e = c.in_ok-extent.ensures in
    let turn = turn_is g.R.Truth.Truth.kind g.R.Truth.Truth.means w c.requires.sheet c.requires.few e.has_signals c.loop-k-test.true c.loop-k.invariant.2 c.loop-k.invariant.3 c.depth_under.ensures c.looks_back.ensures c.from.ensures c.saturating_sub-deeper.ensures in
    let ec = ap (λ m. c.saturating_sub-deeper.result * m) c.cycle-cycle.ensures in
    record {
      column = record { room = roomy c.args.lines.now w c.repeat.new.cells _ (omega (arith, e.room, c.loop-k.auto.cells, c.repeat.auto.cells)) (omega (arith, turn.within, ec)); inside = omega (arith, c.loop-k-test.true) };
      lower = c.requires.sheet c.loop-k.k c.loop-k-test.true;
      named = e.has_signals c.loop-k.k c.loop-k-test.true;
    }

pub loop-k-preserved : goal.loop-k-preserved
loop-k-preserved g c =
    let w = g.R.Recording.word c.args.recording.now in
    let e = c.in_ok-extent.ensures in
    let K = g.R.Truth.Truth.kind in
    let means = g.R.Truth.Truth.means in
    let lines = c.args.lines.now in
    let k = c.loop-k.k in
    let more = c.saturating_sub-deeper.result in
    let now : ℕ = c.loop-k.samples + more * c.cycle-cycle.result in
    let turn = turn_is g.R.Truth.Truth.kind g.R.Truth.Truth.means w c.requires.sheet c.requires.few e.has_signals c.loop-k-test.true c.loop-k.invariant.2 c.loop-k.invariant.3 c.depth_under.ensures c.looks_back.ensures c.from.ensures c.saturating_sub-deeper.ensures in
    let ec = ap (λ m. more * m) c.cycle-cycle.ensures in
    let deeps = deep_more K means lines w c.requires.sheet e.has_signals c.loop-k.depths c.loop-k.deepest k c.loop-k-test.true turn.small_line c.loop-k.invariant.3
    (c.depth_under.result + c.from.result) more (set c.loop-k.depths k (c.depth_under.result + c.from.result)) turn.is c.saturating_sub-deeper.ensures refl in
    let copied : Repeated (length lines) k w.cycle c.loop-k.samples now c.loop-k.cells c.repeat.new.cells =
    transport (λ i. Repeated (length lines) k (c.cycle-cycle.ensures i) c.loop-k.samples now c.loop-k.cells c.repeat.new.cells) c.repeat.ensures in
    let cols : Columns K means lines w now k c.repeat.new.cells =
    columns_longer K means lines w c.loop-k.samples k (more * c.cycle-cycle.result) c.loop-k.cells c.repeat.new.cells
    (omega (arith, c.loop-k-test.true)) (omega (arith, c.loop-k.invariant.2)) (omega (arith, turn.turn, ec))
    (steady_by K means lines w c.loop-k.depths c.loop-k.deepest k _ c.loop-k.invariant.3 (omega (arith, c.loop-k.invariant.2)))
    copied c.loop-k.invariant.0 in
    let fills : Fills means (length lines) k c.repeat.new.cells (λ d t. written K (meant means w) (now - w.cycle) now (line lines k) (λ a. column means c.repeat.new.cells (length lines) a d) t) 0 now c.fill_line.new.cells =
    transport (λ i. Fills means (length lines) k c.repeat.new.cells (λ d t. written K (meant means w) (now - c.cycle-cycle.ensures i) now (line lines k) (λ a. column means c.repeat.new.cells (length lines) a d) t) 0 now c.fill_line.new.cells) c.fill_line.ensures in
    let inside : now ≤ c.in_ok-extent.extent.samples = omega (arith, turn.within, ec, e.samples) in (
      columns_at K means lines w c.requires.sheet e.has_signals (now - w.cycle) now k (omega (arith, turn.reach, ec)) c.loop-k-test.true
          (steady_by K means lines w _ _ (k + 1) _ deeps (omega (arith, turn.reach, ec))) c.repeat.new.cells c.fill_line.new.cells fills cols,
      λ i h d.
          further_more c.loop-k-test.true fills i (omega (arith, mul-le (length lines) now (length lines) c.in_ok-extent.extent.samples (omega arith) inside)) d
          ∙ further_longer (omega (arith, c.loop-k-test.true)) inside copied i h d
          ∙ c.loop-k.invariant.1 i h d,
      omega (arith, turn.reach, ec),
      deeps,
    )

pub loop-samples-init : goal.loop-samples-init
loop-samples-init g c =
    let lines = c.args.lines.now in
    let K = g.R.Truth.Truth.kind in
    let means = g.R.Truth.Truth.means in
    let w = g.R.Recording.word c.args.recording.now in
    let ek : c.loop-k.k ≡ length lines = omega (arith, c.loop-k-test.false, c.loop-k.auto.k-end) in (
      subst (λ m. Columns K means lines w c.loop-k.samples m c.loop-k.cells) ek c.loop-k.invariant.0,
      λ i h d. refl,
      subst (λ m. Steady K means lines w (c.loop-k.samples - w.cycle) m) ek (steady_by K means lines w c.loop-k.depths c.loop-k.deepest c.loop-k.k _ c.loop-k.invariant.3 (omega (arith, c.loop-k.invariant.2))),
      (c.loop-k.deepest, c.loop-k.invariant.2, subst (λ m. c.loop-k.deepest ≤ pasts (line lines) m) ek c.loop-k.invariant.3.few),
    )

pub repeat-requires-in-loop-samples : goal.repeat-requires-in-loop-samples
repeat-requires-in-loop-samples g c =
    let w = g.R.Recording.word c.args.recording.now in
    let e = c.in_ok-extent.ensures in
    let lines = c.args.lines.now in
    let n = c.loop-samples.invariant.3.0 in
    let reach = c.loop-samples.invariant.3.1 in
    let level = level_more lines w c.loop-samples.samples n reach (omega (arith, c.loop-samples-test.true, e.samples)) in
    let within = reach_more lines w c.loop-samples.samples n 1 reach level in
    record {
      room = roomy lines w c.loop-samples.cells _ (omega (arith, e.room, c.loop-k.auto.cells, c.loop-samples.auto.cells)) (omega (arith, within, c.cycle-cycle.ensures));
      lines = omega arith;
      turn = omega arith;
    }

pub overflow_add-samples-in-loop-samples : goal.overflow_add-samples-in-loop-samples
overflow_add-samples-in-loop-samples g c =
    let w = g.R.Recording.word c.args.recording.now in
    let e = c.in_ok-extent.ensures in
    let lines = c.args.lines.now in
    let n = c.loop-samples.invariant.3.0 in
    let reach = c.loop-samples.invariant.3.1 in
    let level = level_more lines w c.loop-samples.samples n reach (omega (arith, c.loop-samples-test.true, e.samples)) in
    let within = reach_more lines w c.loop-samples.samples n 1 reach level in
    omega (arith, within, c.cycle-cycle.ensures, e.few, e.samples)

pub loop-samples-preserved : goal.loop-samples-preserved
loop-samples-preserved g c =
    let K = g.R.Truth.Truth.kind in
    let means = g.R.Truth.Truth.means in
    let w = g.R.Recording.word c.args.recording.now in
    let e = c.in_ok-extent.ensures in
    let lines = c.args.lines.now in
    let n = c.loop-samples.invariant.3.0 in
    let reach = c.loop-samples.invariant.3.1 in
    let level = level_more lines w c.loop-samples.samples n reach (omega (arith, c.loop-samples-test.true, e.samples)) in
    let within = reach_more lines w c.loop-samples.samples n 1 reach level in
    let now : ℕ = c.loop-samples.samples + c.cycle-cycle.result in
    let copied : Repeated (length lines) (length lines) w.cycle c.loop-samples.samples now c.loop-samples.cells c.repeat-in-loop-samples.new.cells =
    transport (λ i. Repeated (length lines) (length lines) (c.cycle-cycle.ensures i) c.loop-samples.samples now c.loop-samples.cells c.repeat-in-loop-samples.new.cells) c.repeat-in-loop-samples.ensures in (
      columns_longer K means lines w c.loop-samples.samples (length lines) c.cycle-cycle.result c.loop-samples.cells c.repeat-in-loop-samples.new.cells
          (omega arith) (omega (arith, reach)) (omega (arith, c.cycle-cycle.ensures)) c.loop-samples.invariant.2 copied c.loop-samples.invariant.0,
      λ i h d. further_longer (omega arith) (omega (arith, within, c.cycle-cycle.ensures, e.samples)) copied i h d ∙ c.loop-samples.invariant.1 i h d,
      λ f val a ha t ht. c.loop-samples.invariant.2 f val a ha t (omega (arith, ht)),
      (n + 1, omega (arith, reach_longer w c.loop-samples.samples n 1 reach, c.cycle-cycle.ensures), level),
    )

pub bounds-cells-width : goal.bounds-cells-width
bounds-cells-width g c =
    let w = g.R.Recording.word c.args.recording.now in
    let e = c.in_ok-extent.ensures in
    let lines = c.args.lines.now in
    omega (arith, e.room, c.loop-k.auto.cells, c.loop-samples.auto.cells, c.requires.some, mul-le (length lines) 1 (length lines) (horizon lines w) (omega arith) (omega (arith, w.sizes.3)))

pub returns : goal.returns
returns g c =
    let w = g.R.Recording.word c.args.recording.now in
    let e = c.in_ok-extent.ensures in
    let lines = c.args.lines.now in
    let K = g.R.Truth.Truth.kind in
    let means = g.R.Truth.Truth.means in
    let made = exists K (meant means w) lines c.requires.sheet e.has_signals in
    let all : c.loop-samples.samples ≡ horizon lines w = reach_all lines w c.loop-samples.samples c.loop-samples.invariant.3.0 c.loop-samples.invariant.3.1 c.loop-samples.invariant.3.2 (omega (arith, c.loop-samples-test.false, e.samples)) in
    let cells : (k t : ℕ) → k < length lines → t < horizon lines w → (d : g.row.R-Truth.Denot) → column means c.loop-samples.cells (length lines) k d t ≡ made.0 k t =
    λ k t hk ht d. c.loop-samples.invariant.0 made.0 made.1 k hk t (omega (arith, all)) d in
    let at_start : length lines - 1 ≡ 0 * length lines + (length lines - 1) = omega arith in
    record {
      has_signals = e.has_signals;
      room = e.room;
      f = made.0;
      valuation = made.1;
      only = λ h val k hk t. unique K (meant means w) lines c.requires.sheet h made.0 val made.1 k hk t;
      again = λ k hk. period_below K (meant means w) (line lines) (length lines) c.requires.sheet e.has_signals made.0 made.1 (length lines) (omega arith) k hk;
      cells = cells;
      further = λ i h d.
          let far : length lines * c.in_ok-extent.extent.samples ≤ i = subst (λ m. length lines * m ≤ i) (sym e.samples) h in
          c.loop-samples.invariant.1 i far d ∙ c.loop-k.invariant.1 i far d;
      as_long = omega (arith, c.loop-k.auto.cells, c.loop-samples.auto.cells);
      verdict =
          ap means (c.index-cells-width.is ∙ ap (λ m. get_or c.loop-samples.cells m c.index-cells-width.result) at_start)
          ∙ cells (length lines - 1) 0 (omega (arith, c.requires.some)) (omega (arith, w.sizes.3)) c.index-cells-width.result;
    }

use Rattle.std.proofs.Common.{subst}
use Rattle.meaning.specs.Sheet.{rule_of}
use Rattle.meaning.specs.Verdict.{Filled}
use Rattle.foreign.proofs.Sealing.{same_lines}
use Rattle.foreign.proofs.once.judge_once.Goals as goal

pub returns : goal.returns
returns g c =
    subst
    (λ ls. Filled g.R.Truth.Truth.kind g.R.Truth.Truth.means ls (g.R.Recording.word c.args.recording.now) (rule_of ls) 0 c.args.cells.now c.judge.new.cells c.in_ok-judge.field-0)
    (same_lines c.args.draft c.in_ok-sealed.sealed c.in_ok-sealed.ensures)
    c.in_ok-judge.ensures

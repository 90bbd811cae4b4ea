use Rattle.std.proofs.Common.{◌≡◌, ◌^◌, length, subst, arith}
use Rattle.checker.specs.CheckAnswer.{Answer}
use Rattle.machine.specs.Machines.{tables}
use Rattle.session.proofs.Narrowing.{same_numbers}
use Rattle.session.proofs.Straying.{strays, placed}
use Rattle.session.proofs.bench.checking.check_numbers.Goals as goal

pub returns-in-Some : goal.returns-in-Some
returns-in-Some g c =
    let w = g.R.Recording.word c.args.recording.now in
    let m = tables c.args.machine.now in (
      c.check.result,
      placed g.R.Truth.Truth.kind g.R.Truth.Truth.means m w c.args.rows.now c.args.back c.place.result c.check.result c.place.ensures
          (subst (λ xs. Answer g.R.Truth.Truth.kind g.R.Truth.Truth.means m w xs c.place.result c.check.result)
          (same_numbers _ (2 ^ 64) c.args.rows.now _ _ _ c.as_slice.ensures.value c.in-Some.is c.in_ok-rows.ensures)
          c.check.ensures),
      c.told.ensures,
    )

pub returns-in_ok-blank-in-None : goal.returns-in_ok-blank-in-None
returns-in_ok-blank-in-None g c =
    let w = g.R.Recording.word c.args.recording.now in
    let m = tables c.args.machine.now in
    let size : length c.args.rows.now ≡ length c.as_slice-in-None.result.now = omega (arith, c.as_slice-in-None.ensures.len, c.in_ok-blank-in-None.ensures.len) in (
      c.check_stray.result,
      placed g.R.Truth.Truth.kind g.R.Truth.Truth.means m w c.args.rows.now c.args.back c.place-in-None.result c.check_stray.result c.place-in-None.ensures
          (c.check_stray.ensures c.args.rows.now size (strays _ c.args.machine.now c.args.rows.now _ c.in-None.is c.in_ok-rows.ensures)),
      c.told-in-None.ensures,
    )

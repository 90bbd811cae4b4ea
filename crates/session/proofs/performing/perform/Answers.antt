use Rattle.std.proofs.Common.{[], ◌∷◌, map, None, Some, ap, ◌∙◌, refl, arith}
use Rattle.recording.specs.Made.{tape_word, gapped_word, wheel_word}
use Rattle.machine.specs.Machines.{tables}
use Rattle.run.specs.Histories.{ledger_of}
use Rattle.session.specs.declared.bench.Recorded.TheVariants as recorded
use Rattle.session.proofs.Refilling.{bench_flags, bench_levels}
use Rattle.session.proofs.performing.perform.Goals as goal

pub returns-in-None-clause-performs : goal.returns-in-None-clause-performs
returns-in-None-clause-performs c =
    let made = c.on_flags in
    bench_flags (ledger_of c.args.sheet) c.args.call made.result.answer (tables c.args.machine.now) (tables made.new.machine) c.args.bench.now None c.args.bench.now.recorded c.in-None.is c.in-None.is _ made.new.bits _ made.new.rows
    (record { was = c.as_mut_slice-bits.ensures.value; size = omega (arith, made.auto.bits, c.as_mut_slice-bits.ensures.len) })
    (record { was = c.as_mut_slice-rows.ensures.value; size = omega (arith, made.auto.rows, c.as_mut_slice-rows.ensures.len) })
    [] _ _ made.new.flags refl
    (record { was = c.as_mut_slice-flags.ensures.value; size = omega (arith, made.auto.flags, c.as_mut_slice-flags.ensures.len) })
    (λ after p. p)
    made.ensures.performs

pub returns-in-Some-Plain-clause-performs : goal.returns-in-Some-Plain-clause-performs
returns-in-Some-Plain-clause-performs c =
    let made = c.on_flags-in-Some-Plain in
    bench_flags (ledger_of c.args.sheet) c.args.call made.result.answer (tables c.args.machine.now) (tables made.new.machine) c.args.bench.now (Some (recorded.Plain c.in-Some-Plain.tape)) (Some (recorded.Plain c.in-Some-Plain.tape)) (c.in-Some-Plain.is ∙ ap Some c.in-Some-Plain.field-0-is) refl _ made.new.bits _ made.new.rows
    (record { was = c.as_mut_slice-bits.ensures.value; size = omega (arith, made.auto.bits, c.as_mut_slice-bits.ensures.len) })
    (record { was = c.as_mut_slice-rows.ensures.value; size = omega (arith, made.auto.rows, c.as_mut_slice-rows.ensures.len) })
    (tape_word c.in-Some-Plain.tape ∷ []) _ _ made.new.flags (ap (map tape_word) c.from_ref-tapes.ensures.value)
    (record { was = c.as_mut_slice-flags-in-Some-Plain.ensures.value; size = omega (arith, made.auto.flags, c.as_mut_slice-flags-in-Some-Plain.ensures.len) })
    (λ after p. p)
    made.ensures.performs

pub returns-in-Some-Gapped-clause-performs : goal.returns-in-Some-Gapped-clause-performs
returns-in-Some-Gapped-clause-performs c =
    let made = c.on_levels in
    bench_levels (ledger_of c.args.sheet) c.args.call made.result.answer (tables c.args.machine.now) (tables made.new.machine) c.args.bench.now (Some (recorded.Gapped c.in-Some-Gapped.tape)) (Some (recorded.Gapped c.in-Some-Gapped.tape)) (c.in-Some-Gapped.is ∙ ap Some c.in-Some-Gapped.field-0-is) refl _ made.new.bits _ made.new.rows
    (record { was = c.as_mut_slice-bits.ensures.value; size = omega (arith, made.auto.bits, c.as_mut_slice-bits.ensures.len) })
    (record { was = c.as_mut_slice-rows.ensures.value; size = omega (arith, made.auto.rows, c.as_mut_slice-rows.ensures.len) })
    (gapped_word c.in-Some-Gapped.tape ∷ []) _ made.new.levels
    (record { was = c.as_mut_slice-levels.ensures.value; size = omega (arith, made.auto.levels, c.as_mut_slice-levels.ensures.len) })
    (λ after p. p)
    made.ensures.performs

pub returns-in-Some-Turning-clause-performs : goal.returns-in-Some-Turning-clause-performs
returns-in-Some-Turning-clause-performs c =
    let made = c.on_flags-in-Some-Turning in
    bench_flags (ledger_of c.args.sheet) c.args.call made.result.answer (tables c.args.machine.now) (tables made.new.machine) c.args.bench.now (Some (recorded.Turning c.in-Some-Turning.wheel)) (Some (recorded.Turning c.in-Some-Turning.wheel)) (c.in-Some-Turning.is ∙ ap Some c.in-Some-Turning.field-0-is) refl _ made.new.bits _ made.new.rows
    (record { was = c.as_mut_slice-bits.ensures.value; size = omega (arith, made.auto.bits, c.as_mut_slice-bits.ensures.len) })
    (record { was = c.as_mut_slice-rows.ensures.value; size = omega (arith, made.auto.rows, c.as_mut_slice-rows.ensures.len) })
    (wheel_word c.in-Some-Turning.wheel ∷ []) _ _ made.new.flags (ap (map wheel_word) c.from_ref-wheels.ensures.value)
    (record { was = c.as_mut_slice-flags-in-Some-Turning.ensures.value; size = omega (arith, made.auto.flags, c.as_mut_slice-flags-in-Some-Turning.ensures.len) })
    (λ after p. p)
    made.ensures.performs

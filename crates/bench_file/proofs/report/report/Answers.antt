use Rattle.std.proofs.Common.{[]}
use mathlib.Core.Path.{transport}
use Rattle.std.proofs.lemmas.Result.{err_from_is_err_and}
use Rattle.text.specs.Reading.{FirstFault}
use Rattle.bench_file.specs.Reports.{out_of_form, no_tape, faulty}
use Rattle.bench_file.proofs.Reported.{known_is, small, sampled, not_taped, recorded, told, untold}
use Rattle.bench_file.proofs.report.report.Goals as goal

pub returns-in_err-file-clause-reports : goal.returns-in_err-file-clause-reports
returns-in_err-file-clause-reports c =
    let p = err_from_is_err_and c.from_residual.result c.from_residual.ensures.1 in
    rw (p.1, p.2) (out_of_form _ c.in_err-file.ensures.outcome)

pub tape_of-requires : goal.tape_of-requires
tape_of-requires c =
    let o = c.in_ok-file.ensures.outcome in
    record { sized = o.1.size; few = small c.args.bytes.now c.in_ok-file.file o.0 o.1 }

pub returns-in_err-tape-clause-reports : goal.returns-in_err-tape-clause-reports
returns-in_err-tape-clause-reports c =
    let p = err_from_is_err_and c.from_residual-in_err-tape.result c.from_residual-in_err-tape.ensures.1 in
    let o = c.in_ok-file.ensures.outcome in
    let b = c.args.bytes.now in
    let f = c.in_ok-file.file in
    rw (p.1, p.2) (no_tape _ _ _ o.0 (sampled b f o.0 o.1) (not_taped b f o.0 o.1 c.in_err-tape.ensures))

pub returns-in_err-sheet-clause-reports : goal.returns-in_err-sheet-clause-reports
returns-in_err-sheet-clause-reports c =
    let p = err_from_is_err_and c.from_residual-in_err-sheet.result c.from_residual-in_err-sheet.ensures.1 in
    let o = c.in_ok-file.ensures.outcome in
    let b = c.args.bytes.now in
    let f = c.in_ok-file.file in
    rw (p.1, p.2)
    (faulty _ (recorded b f o.0 o.1 c.in_ok-tape.tape c.in_ok-tape.ensures)
    (transport (λ i. FirstFault (known_is b f o.0 o.1 i) (o.1.rule i) [] c.in_err-sheet.field-0.0) c.in_err-sheet.ensures))

pub returns-in_err-judged-clause-reports : goal.returns-in_err-judged-clause-reports
returns-in_err-judged-clause-reports c =
    let p = err_from_is_err_and c.from_residual-in_err-judged.result c.from_residual-in_err-judged.ensures.1 in
    let o = c.in_ok-file.ensures.outcome in
    let s = c.in_ok-sheet.ensures in
    rw (p.1, p.2)
    (untold c.args.bytes.now c.in_ok-file.file o.0 o.1 c.in_ok-tape.tape c.in_ok-tape.ensures _ s.0 _ s.1 s.2 _ c.in_err-judged.ensures.tells)

pub returns-clause-reports : goal.returns-clause-reports
returns-clause-reports c =
    let o = c.in_ok-file.ensures.outcome in
    let s = c.in_ok-sheet.ensures in
    told c.args.bytes.now c.in_ok-file.file o.0 o.1 c.in_ok-tape.tape c.in_ok-tape.ensures _ s.0 _ s.1 s.2 _ c.in_ok-judged.ensures.tells

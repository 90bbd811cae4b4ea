use Rattle.lexer.proofs.Pieces.{rest_is}
use Rattle.bench_file.proofs.Marks.{bad_count, bad_rest}
use Rattle.bench_file.proofs.form.+read_sample.Goals as goal

pub returns-in_err-others-in-Some : goal.returns-in_err-others-in-Some
returns-in_err-others-in-Some t c =
    rw c.from_residual-in_err-others-in-Some.ensures
    (bad_rest _ _ c.in-Some.rest.now _ c.if-signals-gt1.true (rest_is 32 _ _ _ _ c.first_part-part.ensures.parted c.in-Some.is) c.in_err-others-in-Some.ensures)

pub returns-in_default-2 : goal.returns-in_default-2
returns-in_default-2 t c = bad_count _ _ c.in-Some.rest.now _ c.if-signals-gt1.false (rest_is 32 _ _ _ _ c.first_part-part.ensures.parted c.in-Some.is)

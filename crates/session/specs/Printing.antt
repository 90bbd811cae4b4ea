-- How an answer prints, after the name of its call.
use Rattle.std.specs.Prelude.{ℕ, List, [], ◌++◌, codes, decimal}
use Rattle.recording.specs.Printed.{truth_text}
use Rattle.run.specs.Printing.{form_text}
use Rattle.session.specs.declared.answer.Answer.{Answer}
use Rattle.session.specs.declared.answer.Answer.TheVariants as answer
use Rattle.session.specs.Among.{raised}

abbrev pub answer_text : Answer → List ℕ
answer_text (answer.Line n) = codes " line " ++ decimal n
answer_text answer.Done = codes " done"
answer_text (answer.Refused n) = codes " refused " ++ decimal n
answer_text (answer.NotWhile x) = codes " not while " ++ form_text x
answer_text answer.NoRecording = codes " no recording"
answer_text answer.NotTwoValued = codes " not two-valued"
answer_text answer.Tables = []
answer_text (answer.Values j) = codes " " ++ truth_text j.verdict
answer_text (answer.Run r) = codes " " ++ (decimal r.rows ++ (codes " " ++ (decimal r.back ++ (codes " " ++ truth_text r.verdict))))
answer_text (answer.Accepting b) = codes " " ++ truth_text (raised b)

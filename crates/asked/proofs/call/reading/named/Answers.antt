use Rattle.std.proofs.Common.{codes, sym, ap, rules, arith}
use Rattle.asked.specs.Reading.{verb_of}
use Rattle.asked.proofs.Spelling.{spelled}
use Rattle.asked.proofs.call.reading.named.Goals as goal

pub returns-in-strike : goal.returns-in-strike
returns-in-strike c =
    sym (ap verb_of (spelled c.args.word.now (codes "strike") (omega arith) (search rules)))

pub returns-in-reopen : goal.returns-in-reopen
returns-in-reopen c =
    sym (ap verb_of (spelled c.args.word.now (codes "reopen") (omega arith) (search rules)))

pub returns-in-gapped : goal.returns-in-gapped
returns-in-gapped c =
    sym (ap verb_of (spelled c.args.word.now (codes "gapped") (omega arith) (search rules)))

pub returns-in-translate : goal.returns-in-translate
returns-in-translate c =
    sym (ap verb_of (spelled c.args.word.now (codes "translate") (omega arith) (search rules)))

use Rattle.std.proofs.Common.{rules, tests}
use Rattle.std.proofs.lemmas.Iterator.{YieldsList-from_slice}
use Rattle.std.proofs.lemmas.Iterator.Consumers.{count_from_yields_List, YieldsList-at}
use Rattle.std.proofs.lemmas.Iterator.Search.{YieldsList-from_take_while}
use Rattle.std.specs.Char.{is_ascii_lowercase}
use Rattle.lexer.proofs.Naming.{letters_from}
use Rattle.lexer.proofs.token.letters_end.Goals as goal

pub returns : goal.returns
returns c =
    letters_from _ _ _ c.requires
    (count_from_yields_List c.take_while.result _ c.count.ensures.ran
    (YieldsList-from_take_while _ is_ascii_lowercase (YieldsList-at c.take_while.ensures.source (YieldsList-from_slice _ c.iter.ensures.rest)) c.take_while.ensures.closure c.take_while.ensures.done (λ x b q k. search (rules, tests))))

use Rattle.std.proofs.Common.{◌∙◌, sym, refl, rules, tests, List, ℕ}
use Rattle.std.proofs.lemmas.Bool.Decides.{when_true, when_false}
use Rattle.std.proofs.lemmas.Iterator.{cases_from_all}
use Rattle.std.proofs.lemmas.Iterator.Consumers.{YieldsList-from_enumerate, YieldsList-at}
use Rattle.lexer.specs.Names.{names_of}
use Rattle.lexer.proofs.Naming.{bad_name, few_parts, good_line, names_come, IsBad, IsGood}
use Rattle.lexer.proofs.names.Names.new.Goals as goal

pub returns-then-good : goal.returns-then-good
returns-then-good c =
    let line : List ℕ = c.args.bytes.now in
    let road = YieldsList-from_enumerate (YieldsList-at c.enumerate.ensures.source (names_come c.iter.result line c.iter.ensures.source c.iter.ensures.count)) c.enumerate.ensures.count in
    let all = when_true _ _ c.if-good.true (cases_from_all c.all-good.new.self _ _ (IsGood (names_of line)) (IsBad (names_of line)) c.all-good.ensures.ran road (λ x q k. search (rules, tests)) (λ x q k. search (rules, tests))) in
    (refl, good_line line (few_parts line c.nth_part.result c.nth_part.ensures (sym c.is_some.ensures ∙ c.if-is_some.false)) all)

pub returns-else-good : goal.returns-else-good
returns-else-good c =
    let line : List ℕ = c.args.bytes.now in
    let road = YieldsList-from_enumerate (YieldsList-at c.enumerate.ensures.source (names_come c.iter.result line c.iter.ensures.source c.iter.ensures.count)) c.enumerate.ensures.count in
    let bad = when_false _ _ c.if-good.false (cases_from_all c.all-good.new.self _ _ (IsGood (names_of line)) (IsBad (names_of line)) c.all-good.ensures.ran road (λ x q k. search (rules, tests)) (λ x q k. search (rules, tests))) in
    bad_name line bad.0 bad.1 bad.2

use Rattle.std.proofs.Common.{rules, tests, ◌≡◌, sym, ◌∙◌, false, eqb, ℕ}
use Rattle.std.specs.List.{All}
use Rattle.std.proofs.lemmas.Iterator.{YieldsList-from_slice}
use Rattle.std.proofs.lemmas.Iterator.Search.{position_from_yields_List}
use Rattle.std.proofs.lemmas.List.Splits.{slice_split_none}
use Rattle.lexer.proofs.Pieces.{cut}
use Rattle.lexer.proofs.parts.first_part.Goals as goal

pub returns-in-Some-clause-parted : goal.returns-in-Some-clause-parted
returns-in-Some-clause-parted c =
    cut _ _ _ (sym c.in-Some.is
    ∙ position_from_yields_List (λ b. eqb b c.args.separator) _ _ _ c.position.ensures.ran (YieldsList-from_slice c.args.bytes.now cc) (λ x b q k. search (rules, tests)))

pub returns-in-None-clause-parted : goal.returns-in-None-clause-parted
returns-in-None-clause-parted c =
    let none : All (λ (b : ℕ). eqb b c.args.separator ≡ false) c.args.bytes.now = search rules in
    slice_split_none _ _ none

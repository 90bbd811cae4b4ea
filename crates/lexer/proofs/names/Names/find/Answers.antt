use Rattle.std.proofs.Common.{rules, tests, ◌≡◌, sym, ◌∙◌, ℕ, List, subst}
use Rattle.std.proofs.lemmas.Iterator.{IsFirst-from_position}
use Rattle.lexer.proofs.Naming.{names_come, finds}
use Rattle.lexer.specs.Names.{Finds, known, line_of}
use Rattle.lexer.proofs.names.Names.find.Goals as goal

pub returns-in_err-number : goal.returns-in_err-number
returns-in_err-number c =
    let name : List ℕ = c.args.name.now in
    let f = finds (known c.args.self.now) name c.position.result (IsFirst-from_position c.position.new.self _ _ (λ (n : List ℕ). n ≡ name) (λ (n : List ℕ). n ≡ name → ⊥) c.position.ensures.ran (names_come c.iter.result (line_of c.args.self.now) c.iter.ensures.source c.iter.ensures.count) (λ x q k. search (rules, tests)) (λ x q k. search (rules, tests))) in
    subst (Finds (known c.args.self.now) name) (c.in_err-number.was ∙ sym c.from_residual.ensures) f

pub returns : goal.returns
returns c =
    let name : List ℕ = c.args.name.now in
    let f = finds (known c.args.self.now) name c.position.result (IsFirst-from_position c.position.new.self _ _ (λ (n : List ℕ). n ≡ name) (λ (n : List ℕ). n ≡ name → ⊥) c.position.ensures.ran (names_come c.iter.result (line_of c.args.self.now) c.iter.ensures.source c.iter.ensures.count) (λ x q k. search (rules, tests)) (λ x q k. search (rules, tests))) in
    subst (Finds (known c.args.self.now) name) c.in_ok-number.was f

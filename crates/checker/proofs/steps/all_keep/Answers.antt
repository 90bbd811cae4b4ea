use Rattle.std.proofs.Common.{◌≡◌, ℕ, ◌≤◌, true, subst, sym, length, arith}
use Rattle.machine.specs.Machines.{tables}
use Rattle.machine.specs.Tables.{variable_at, variable_fits}
use Rattle.std.proofs.iter.Serving.{serving}
use Rattle.machine.specs.declared.gate.Variable.{Variable}
use Rattle.machine.specs.declared.gate.Variable.TheVariants as variable
use Rattle.std.proofs.lemmas.Bool.Decides.{nat_tests}
use Rattle.std.specs.List.{All}
use Rattle.std.proofs.lemmas.List.Elements.{All-from_get_or}
use Rattle.checker.proofs.steps.all_keep.Goals as goal

-- what names gates below g names gates below h
wider : (g h : ℕ) → g ≤ h → (z : Variable) → variable_fits g z ≡ true → variable_fits h z ≡ true
wider g h le (variable.Next a) e = grind (arith, nat_tests)
wider g h le (variable.Until a b) e = grind (arith, nat_tests)
wider g h le (variable.Back a s) e = grind (arith, nat_tests)

pub all-requires-clause-callable : goal.all-requires-clause-callable
all-requires-clause-callable c =
    let m = tables c.args.machine.now in
    let fit : All (λ z. variable_fits 192 z ≡ true) c.variables.result.now =
    subst (All (λ z. variable_fits 192 z ≡ true)) (sym c.variables.ensures.are)
    (All-from_get_or (λ z. variable_fits 192 z ≡ true) m.variables (variable.Next 0)
    (λ j h. wider (length m.gates) 192 c.variables.ensures.sound.1.gates (variable_at m.variables j) (c.variables.ensures.sound.0.variables j h))) in
    grind (serving, fit)

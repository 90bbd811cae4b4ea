-- What names and a rule text are found to be.
use Rattle.std.proofs.Common.{ℕ, List, [], Ok, Err, sym, subst}
use Rattle.lexer.specs.Names.{Opened, known, names_of}
use Rattle.lexer.specs.declared.names.Names.{Names}
use Rattle.sheet.specs.Sheets.{sealed_lines}
use Rattle.sheet.specs.declared.sealed.Sealed.{Sealed}
use Rattle.text.specs.declared.fault.Fault.{Fault}
use Rattle.text.specs.Reading.{FirstFault, Fitting, Read}
use Rattle.yungaslid.specs.Answers.{refused_text}
use Rattle.yungaslid.specs.Opening.{Opens, faulty, ruled}

module _ (names rule : List ℕ) (Taped : Type 0) (n : Names) (opened : Opened names (Ok n)) (taped : Taped) where
  pub faulty_at : (f : Fault) → Read (known n) rule (Err f) → Opens names rule Taped (Err (refused_text f))
  faulty_at f h = faulty f opened.1 taped (subst (λ l. FirstFault (names_of l) rule [] f) opened.0 h)

  pub ruled_at : (s : Sealed) → Read (known n) rule (Ok s) → Opens names rule Taped (Ok (sealed_lines s))
  ruled_at s h =
      subst (λ ls. Opens names rule Taped (Ok ls)) (sym h.2)
      (ruled h.0 opened.1 taped (subst (λ l. Fitting (names_of l) rule [] h.0) opened.0 h.1))

-- A sealed sheet has the lines of its draft.
use Rattle.std.proofs.Common.{◌≡◌, Bool, true, false, cond, eqb, length, refl, ap, ◌∙◌}
use Rattle.sheet.specs.declared.draft.Draft.{Draft}
use Rattle.sheet.specs.declared.sealed.Sealed.{Sealed}
use Rattle.sheet.specs.Ledger.{Answer, Ledger, Done, Seal, Shut, fed, refused, with_form}
use Rattle.sheet.specs.Sheets.{lines_of, sealed_lines, drafted, shut}

pub same_lines : (d : Draft) (s : Sealed) → (Done, shut s) ≡ fed (drafted d) Seal → sealed_lines s ≡ lines_of d
same_lines d s e = ap (λ (p : Answer × Ledger). p.1.lines) e ∙ either (eqb (length (lines_of d)) 0)
  where
    either : (b : Bool) → (cond b (refused 4 (drafted d)) (Done, with_form Shut (drafted d))).1.lines ≡ lines_of d
    either true = refl
    either false = refl

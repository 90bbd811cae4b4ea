-- The law holds of the lines of every sealed sheet.
use Rattle.std.proofs.Common.{◌≡◌, ℕ, ◌<◌, ◌≤◌, List, length, arith}
use Rattle.recording.specs.Kind.{Kind, TwoValued}
use Rattle.sheet.specs.declared.line.Line.{Line}
use Rattle.sheet.specs.Sheets.{sealed_lines}
use Rattle.sheet.specs.Table.{Sheet}
use Rattle.sheet.proofs.Front.{length_lines, draft_sheet}
use Rattle.meaning.proofs.Build.{exists}
use Rattle.laws.proofs.Theorems.{the_values, exact_law, written_law, filling_law}
use Rattle.machine.proofs.Wiring.{sound}
use Rattle.run.specs.declared.form.Sheet as either
use Rattle.run.specs.declared.form.Sheet.TheVariants.{Open, Shut}
use Rattle.run.specs.Histories.{ledger_of}
use Rattle.run.specs.Law.{Law, WhileSealed}

module _ (K B : Kind) (two : TwoValued B) where
  law_of : (lines : List Line) → Sheet lines → 0 < length lines → length lines ≤ 64 → Law K B lines
  law_of lines sheet some few =
      record {
        some = some;
        judged = λ word nam. let e = exists K word lines sheet nam in (e.0, the_values K word lines sheet e.0 e.1);
        two_valued = two;
        sound = sound lines sheet some few;
        machine = exact_law B two lines sheet some;
        run = written_law B two lines sheet some;
        filled = filling_law B lines sheet some;
      }

  pub sheet_law : (s : either.Sheet) → WhileSealed K B (ledger_of s)
  sheet_law (Open d) e = let z : ◌≡◌ {A = ℕ} 0 1 = cc in absurd (omega arith)
  sheet_law (Shut s) e =
      law_of (sealed_lines s) (draft_sheet s.draft) (omega (arith, length_lines s.draft, s.some)) (omega (arith, length_lines s.draft, s.draft.room))

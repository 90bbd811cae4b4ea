-- How much judging fills on the first of some recordings.
use Rattle.std.proofs.Common.{◌≡◌, ℕ, List, [], ◌∷◌, map, length, get_or, arith}
use Rattle.recording.specs.Word.{Word}
use Rattle.sheet.specs.Ledger.{Shut}
use Rattle.sheet.specs.declared.line.Line.{Line}
use Rattle.meaning.specs.Verdict.{horizon}
use Rattle.session.specs.declared.answer.Filled.{Filled}
use Rattle.session.specs.Replies.{filled_by_form}

module _ {V R : Type 0} (word : R → Word V) (ls lines : List Line) (are : ls ≡ lines) where
  abbrev counted : ℕ → Filled
  counted n = record { lines = length ls; samples = n }

  pub filled_none : (rs : List R) → length rs ≡ 0 → counted 0 ≡ filled_by_form Shut lines (map word rs)
  filled_none [] h = λ i. record { lines = length (are i); samples = 0 }
  filled_none (r ∷ rs) h = absurd (omega (arith, h))

  pub filled_first : (rs : List R) (n : ℕ) (d : R) → (length rs ≡ 0 → ⊥) → n ≡ horizon lines (word (get_or rs 0 d)) → counted n ≡ filled_by_form Shut lines (map word rs)
  filled_first [] n d h e = absurd (h (omega arith))
  filled_first (r ∷ rs) n d h e = λ i. record { lines = length (are i); samples = e i }

-- Lines have the same values on a word and on its values told as cells.
use Rattle.std.proofs.Common.{◌≡◌, ℕ, List, sym, refl, ap, ◌∙◌}
use Rattle.recording.specs.Kinds.{three}
use Rattle.recording.specs.Word.{Word, meant}
use Rattle.recording.specs.declared.truth.Ternary.{Ternary}
use Rattle.recording.specs.declared.truth.Ternary.TheVariants.{No, Lost, Yes}
use Rattle.sheet.specs.declared.line.Line.{Line}
use Rattle.sheet.specs.declared.line.Line.TheVariants.{Const, Signal, Not, And, Or, Next, Until, WeakUntil, Previous, WeakPrevious, Since, WeakSince}
use Rattle.sheet.specs.Table.{line}
use Rattle.meaning.specs.Sheet.{Values, Row, Valuation, rule_of as last_line}
use Rattle.meaning.specs.Verdict.{Filled}
use Rattle.yungaslid.specs.Cells.{means, cell}
use Rattle.yungaslid.specs.declared.cell.Cell.{Cell}
use Rattle.yungaslid.specs.Levels.{level, byte}
use Rattle.yungaslid.specs.Verdicts.{Judged}

-- the byte of a value means it
level_byte : (p : Ternary) → level (byte p) ≡ p
level_byte No = refl
level_byte Lost = refl
level_byte Yes = refl

-- words that have the same values
abbrev Same : Word Ternary → Word Ternary → Type 0
Same w v = (i t : ℕ) → w.at i t ≡ v.at i t

row : (w v : Word Ternary) → Same w v → (x : Line) (f : ℕ → Values three) (t : ℕ) (p : Ternary) → Row three w x f t p → Row three v x f t p
row w v e (Const b) f t p h = h
row w v e (Signal i) f t p h = h ∙ e i t
row w v e (Not a) f t p h = h
row w v e (And a b) f t p h = h
row w v e (Or a b) f t p h = h
row w v e (Next a) f t p h = h
row w v e (Until a b) f t p h = h
row w v e (WeakUntil a b) f t p h = h
row w v e (Previous a) f t p h = h
row w v e (WeakPrevious a) f t p h = h
row w v e (Since a b) f t p h = h
row w v e (WeakSince a b) f t p h = h

valued : (w v : Word Ternary) → Same w v → (ls : List Line) (f : ℕ → Values three) → Valuation three w ls f → Valuation three v ls f
valued w v e ls f h k below t = row w v e (line ls k) f t (f k t) (h k below t)

-- the word with its values told as cells
abbrev told : Word Ternary → Word Ternary
told w = meant means (meant cell w)

pub judged_at : (ls : List Line) (w : Word Ternary) (before after : List Cell) (answer : Cell) (v : ℕ) → v ≡ byte (means answer)
    → Filled three means ls (meant cell w) (last_line ls) 0 before after answer → Judged ls w before after v
judged_at ls w before after answer v e h =
    record {
      room = h.room;
      f = h.f;
      valuation = valued (told w) w (λ i t. level_byte (w.at i t)) ls h.f h.valuation;
      only = λ g own. h.only g (valued w (told w) (λ i t. sym (level_byte (w.at i t))) ls g own);
      cells = h.cells;
      further = h.further;
      as_long = h.as_long;
      verdict = e ∙ ap byte h.verdict;
    }

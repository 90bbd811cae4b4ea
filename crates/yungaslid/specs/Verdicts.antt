-- What judging a rule on a gapped tape answers, and what it leaves in the cells.
use Rattle.std.specs.Prelude.{◌≡◌, ℕ, ◌+◌, ◌*◌, ◌<◌, ◌≤◌, List, length, Ok, Err, Result, slice_index_or}
use Rattle.recording.specs.Gapped.{gapped}
use Rattle.recording.specs.Kinds.{three}
use Rattle.recording.specs.Tape.{Fits}
use Rattle.recording.specs.Word.{Word, meant}
use Rattle.recording.specs.declared.truth.Ternary.{Ternary}
use Rattle.sheet.specs.declared.line.Line.{Line}
use Rattle.meaning.specs.Sheet.{Values, Valuation, rule_of as last_line}
use Rattle.meaning.specs.Verdict.{Verdict, horizon}
use Rattle.meaning.specs.declared.refusal.Refusal.{Refusal}
use Rattle.yungaslid.specs.declared.answer.Answer.{Answer}
use Rattle.yungaslid.specs.declared.cell.Cell.{Cell}
use Rattle.yungaslid.specs.Answers.{answered, refused_judging}
use Rattle.yungaslid.specs.Cells.{means, cell}
use Rattle.yungaslid.specs.Levels.{byte}
use Rattle.yungaslid.specs.Opening.{Opens}

-- the lines were judged on the word, and v is the byte of the last line's value at sample 0
pub record Judged (ls : List Line) (w : Word Ternary) (before after : List Cell) (v : ℕ) : Type 0 where
  pub room : length ls * horizon ls w ≤ length before
  -- the values of the lines: there is no other valuation
  pub f : ℕ → Values three
  pub valuation : Valuation three w ls f
  pub only : (g : ℕ → Values three) → Valuation three w ls g → (k : ℕ) → k < length ls → (t : ℕ) → g k t ≡ f k t
  -- cell t * L + k means line k at sample t, and further cells stay
  pub cells : (k t : ℕ) → k < length ls → t < horizon ls w → (d : Cell) → means (slice_index_or after (t * length ls + k) d) ≡ f k t
  pub further : (i : ℕ) → length ls * horizon ls w ≤ i → (d : Cell) → slice_index_or after i d ≡ slice_index_or before i d
  pub as_long : length after ≡ length before
  pub verdict : v ≡ byte (f (last_line ls) 0)

-- why the lines were not judged; the cells stay
abbrev pub Unjudged : List Line → Word Ternary → List Cell → List Cell → Refusal → Type 0
Unjudged ls w before after e = Verdict three means ls (meant cell w) (last_line ls) 0 before after (Err e)

module _ (names rule : List ℕ) (signals stem cycle : ℕ) (masks lost : List ℕ) (before after : List Cell) where
  -- the masks and the lost masks fit a tape of these sizes
  abbrev pub Taped : Type 0
  Taped = Fits signals stem cycle masks × Fits signals stem cycle lost

  abbrev pub word : Taped → Word Ternary
  word fits = gapped signals stem cycle masks lost fits.0.sizes

  abbrev pub Opened : Result (List Line) Answer → Type 0
  Opened r = Opens names rule Taped r

  pub data Verdicts : Answer → Type 0 where
    refused : (a : Answer) → Opened (Err a) → after ≡ before → Verdicts a
    unjudged : (e : Refusal) (ls : List Line) (fits : Taped) → Opened (Ok ls) → Unjudged ls (word fits) before after e → Verdicts (refused_judging e)
    judged : (v : ℕ) (ls : List Line) (fits : Taped) → Opened (Ok ls) → Judged ls (word fits) before after v → Verdicts (answered v)

-- What listing a rule's machine answers, and what it leaves in the buffer.
use Rattle.std.specs.Prelude.{◌≡◌, ℕ, List, length, Ok, Err, Result}
use Rattle.sheet.specs.declared.line.Line.{Line}
use Rattle.machine.specs.Translation.{translate}
use Rattle.tables.specs.Text.{tables_text}
use Rattle.yungaslid.specs.declared.answer.Answer.{Answer}
use Rattle.yungaslid.specs.Answers.{answered, unprinted}
use Rattle.yungaslid.specs.Buffers.{over}
use Rattle.yungaslid.specs.Opening.{Opens}

-- the text of the machine of the lines
abbrev pub listing : List Line → List ℕ
listing ls = tables_text (translate ls)

module _ (names rule before after : List ℕ) where
  -- names and rule open so; there is no recording to make
  abbrev pub Opened : Result (List Line) Answer → Type 0
  Opened r = Opens names rule (Unit {0}) r

  pub data Lists : Answer → Type 0 where
    refused : (a : Answer) → Opened (Err a) → after ≡ before → Lists a
    unlisted : (ls : List Line) → Opened (Ok ls) → after ≡ before → Lists unprinted
    listed : (ls : List Line) → Opened (Ok ls) → after ≡ over (listing ls) before → Lists (answered (length (listing ls)))

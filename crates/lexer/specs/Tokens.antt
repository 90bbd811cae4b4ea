-- What the tokens of a rule text are.
use Rattle.std.specs.Prelude.{◌≡◌, ℕ, ◌+◌, ◌<◌, Bool, true, false, ◌⊎◌, List, [], ◌∷◌, length, Some, None, codes, Option, slice_index, slice_range}
use Rattle.lexer.specs.declared.token.Token.{Token}
use Rattle.lexer.specs.declared.token.Token.TheVariants.{Sign, Digit, Name}
use Rattle.lexer.specs.Names.{Letter, Letters}

-- one of the listed bytes
abbrev pub Among : List ℕ → ℕ → Type 0
Among [] b = ⊥
Among (s ∷ ss) b = (b ≡ s) ⊎ Among ss b

abbrev pub signs : List ℕ
signs = codes "!XYZFGOH()&|>UWSB"

abbrev pub digits : List ℕ
digits = codes "01"

-- the digit of a truth value
abbrev pub digit_of : Bool → ℕ
digit_of false = 48
digit_of true = 49

-- no token begins at `at`
pub record NoToken (text : List ℕ) (at : ℕ) : Type 0 where
  pub sign : at < length text → Among signs (slice_index text at) → ⊥
  pub digit : at < length text → Among digits (slice_index text at) → ⊥
  pub letter : at < length text → Letter (slice_index text at) → ⊥

-- the token at `at` is one byte `b` of the listed ones
pub record ByteToken (listed text : List ℕ) (at b after : ℕ) : Type 0 where
  pub within : at < length text
  pub byte : b ≡ slice_index text at
  pub among : Among listed b
  pub next : after ≡ at + 1

-- the token at `at` is a name: these letters of the text, as many as stand there
pub record NameToken (text : List ℕ) (at : ℕ) (name : List ℕ) (place after : ℕ) : Type 0 where
  pub some : at < after
  pub letters : Letters text at after
  pub part : name ≡ slice_range text at after
  pub there : place ≡ at

abbrev pub IsToken : List ℕ → ℕ → Option (Token × ℕ) → Type 0
IsToken text at None = NoToken text at
IsToken text at (Some (Sign b, after)) = ByteToken signs text at b after
IsToken text at (Some (Digit v, after)) = ByteToken digits text at (digit_of v) after
IsToken text at (Some (Name name place, after)) = NameToken text at name.now place after

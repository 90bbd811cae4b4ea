-- The three truth values as bytes.
use Rattle.std.specs.Prelude.{ℕ, zero, suc}
use Rattle.recording.specs.declared.truth.Ternary.{Ternary}
use Rattle.recording.specs.declared.truth.Ternary.TheVariants.{No, Lost, Yes}

-- what a byte means: 0 is no, 1 is lost, and any other is yes
abbrev pub level : ℕ → Ternary
level zero = No
level (suc zero) = Lost
level (suc (suc n)) = Yes

-- the byte of a value
abbrev pub byte : Ternary → ℕ
byte No = 0
byte Lost = 1
byte Yes = 2

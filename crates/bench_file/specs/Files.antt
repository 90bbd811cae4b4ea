-- The bench file: when its bytes are one, what it says, and which refusal they get otherwise.
use Rattle.std.specs.Prelude.{◌≡◌, ℕ, ◌+◌, ◌<◌, ◌≤◌, ◌⊎◌, List, [], length, Ok, Err, Result, slice_index, slice_index_or}
use Rattle.lexer.specs.Names.{Good, line_of, spaced}
use Rattle.lexer.specs.Parts.{parts}
use Rattle.bench_file.specs.declared.file.BenchFile.{BenchFile}
use Rattle.bench_file.specs.declared.refusal.FileRefusal.{FileRefusal}
use Rattle.bench_file.specs.declared.refusal.FileRefusal.TheVariants.{Form, Naming}
use Rattle.bench_file.specs.Lines.{title, IsHeader, IsSample, stem_of, cycle_of, rule_of, mask_of, lost_of}

-- the lines, as the bytes 10 part them; what stands after the last byte 10 is not ended
abbrev pub lines : List ℕ → List (List ℕ)
lines bytes = parts 10 bytes

abbrev pub line : List (List ℕ) → ℕ → List ℕ
line ls k = slice_index_or ls k []

abbrev pub Ended : List (List ℕ) → ℕ → Type 0
Ended ls k = k + 1 < length ls

-- how many samples line 1 asks for, how many signals line 2 names, and how many lines that makes
abbrev pub samples : List (List ℕ) → ℕ
samples ls = stem_of (line ls 1) + cycle_of (line ls 1)

abbrev pub signals : List (List ℕ) → ℕ
signals ls = length (spaced (line ls 2))

abbrev pub needed : List (List ℕ) → ℕ
needed ls = 3 + samples ls

-- line k is right, where those above it are: it is there and ended, and it is what it has to be; behind the last line
-- there is nothing
pub record IsRight (ls : List (List ℕ)) (k : ℕ) : Type 0 where
  pub ended : k < needed ls → Ended ls k
  pub heads : k ≡ 0 → line ls k ≡ title
  pub header : k ≡ 1 → IsHeader (line ls k)
  pub sample : 3 ≤ k → k < needed ls → IsSample (signals ls) (line ls k)
  pub nothing : k ≡ needed ls → (length ls ≡ k + 1) × (line ls k ≡ [])

-- line k is the first that is wrong, missing or extra; from line 3 on the names line is good
pub record FirstWrong (ls : List (List ℕ)) (k : ℕ) : Type 0 where
  pub within : k ≤ needed ls
  pub above : (j : ℕ) → j < k → IsRight ls j
  pub wrong : IsRight ls k → ⊥
  pub named : 2 < k → Good (line ls 2)

-- the bytes are a bench file
pub record InForm (bytes : List ℕ) : Type 0 where
  pub short : length bytes ≤ 16384
  pub right : (k : ℕ) → k ≤ needed (lines bytes) → IsRight (lines bytes) k
  pub named : Good (line (lines bytes) 2)

-- a refusal goes down the file: its length, its lines in their order, and the names between lines 2 and 3
abbrev pub Refuses : List ℕ → FileRefusal → Type 0
Refuses bytes (Form k) = ((16384 < length bytes) × (k ≡ 0)) ⊎ ((length bytes ≤ 16384) × FirstWrong (lines bytes) k)
Refuses bytes (Naming e) = (length bytes ≤ 16384) × ((k : ℕ) → k ≤ 2 → IsRight (lines bytes) k) × (Good (line (lines bytes) 2) → ⊥)

-- what a bench file says: its fields, and a mask and a lost mask for each sample
pub record Says (bytes : List ℕ) (f : BenchFile) : Type 0 where
  pub stem : f.stem ≡ stem_of (line (lines bytes) 1)
  pub cycle : f.cycle ≡ cycle_of (line (lines bytes) 1)
  pub rule : f.rule.now ≡ rule_of (line (lines bytes) 1)
  pub names : line_of f.names ≡ line (lines bytes) 2
  pub size : (length f.masks ≡ 1998) × (length f.lost ≡ 1998)
  pub masks : (t : ℕ) → t < samples (lines bytes) → slice_index f.masks t ≡ mask_of (line (lines bytes) (3 + t))
  pub lost : (t : ℕ) → t < samples (lines bytes) → slice_index f.lost t ≡ lost_of (line (lines bytes) (3 + t))

-- what the reader answers
abbrev pub Outcome : List ℕ → Result BenchFile FileRefusal → Type 0
Outcome bytes (Ok f) = InForm bytes × Says bytes f
Outcome bytes (Err e) = Refuses bytes e

-- bytes get one refusal at most, and a bench file none
pub record Exact (bytes : List ℕ) : Type 0 where
  pub one : (e g : FileRefusal) → Refuses bytes e → Refuses bytes g → e ≡ g
  pub apart : (e : FileRefusal) → InForm bytes → Refuses bytes e → ⊥

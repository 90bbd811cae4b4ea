-- What the parts of the file reader answer.
use Rattle.std.specs.Prelude.{◌≡◌, ℕ, ◌+◌, ◌^◌, ◌<◌, ◌≤◌, List, ◌∷◌, length, drop, Some, None, Ok, Err, Option, Result, slice_index}
use Rattle.std.specs.Borrow.{Bor}
use Rattle.lexer.specs.Names.{Good, line_of}
use Rattle.bench_file.specs.declared.file.Top.{Top}
use Rattle.bench_file.specs.declared.form.Header.{Header}
use Rattle.bench_file.specs.declared.form.Sample.{Sample}
use Rattle.bench_file.specs.declared.form.Taken.{Taken}
use Rattle.bench_file.specs.declared.refusal.FileRefusal.{FileRefusal}
use Rattle.bench_file.specs.declared.refusal.FileRefusal.TheVariants.{Form, Naming}
use Rattle.bench_file.specs.Files.{lines, line, Ended, IsRight, FirstWrong}
use Rattle.bench_file.specs.Lines.{IsNumeral, IsHeader, IsMark, IsSample, value, stem_of, cycle_of, rule_of, mask_of, lost_of, marked}

abbrev pub TakenLine : List ℕ → ℕ → Result Taken FileRefusal → Type 0
TakenLine bytes k (Ok t) = lines bytes ≡ t.line.now ∷ lines t.rest.now
TakenLine bytes k (Err e) = (e ≡ Form k) × (length (lines bytes) ≡ 1)

abbrev pub Counted : List ℕ → Option ℕ → Type 0
Counted ds None = IsNumeral ds → ⊥
Counted ds (Some n) = IsNumeral ds × (n ≡ value ds) × (n ≤ 999)

abbrev pub HeaderOf : List ℕ → Option Header → Type 0
HeaderOf l None = IsHeader l → ⊥
HeaderOf l (Some h) = IsHeader l × (h.stem ≡ stem_of l) × (h.cycle ≡ cycle_of l) × (h.rule.now ≡ rule_of l) × (h.stem ≤ 999) × (h.cycle ≤ 999)

abbrev pub MarkOf : List ℕ → Option Sample → Type 0
MarkOf p None = IsMark p → ⊥
MarkOf p (Some s) = IsMark p × (s.mask ≡ marked 49 p) × (s.lost ≡ marked 63 p)

abbrev pub SampleOf : ℕ → List ℕ → Option Sample → Type 0
SampleOf c l None = IsSample c l → ⊥
SampleOf c l (Some s) = IsSample c l × (s.mask ≡ mask_of l) × (s.lost ≡ lost_of l) × (s.mask < 2 ^ c) × (s.lost < 2 ^ c)

-- lines 0 to 2
pub record TopRight (ls : List (List ℕ)) (t : Top) : Type 0 where
  pub right : (k : ℕ) → k ≤ 2 → IsRight ls k
  pub stem : t.header.stem ≡ stem_of (line ls 1)
  pub cycle : t.header.cycle ≡ cycle_of (line ls 1)
  pub small : (t.header.stem ≤ 999) × (t.header.cycle ≤ 999)
  pub rule : t.header.rule.now ≡ rule_of (line ls 1)
  pub names : line_of t.names ≡ line ls 2
  pub good : Good (line ls 2)
  pub rest : drop 3 ls ≡ lines t.rest.now

abbrev pub TopOf : List (List ℕ) → Result Top FileRefusal → Type 0
TopOf ls (Ok t) = TopRight ls t
TopOf ls (Err (Form k)) = (k ≤ 2) × FirstWrong ls k
TopOf ls (Err (Naming e)) = ((k : ℕ) → k ≤ 2 → IsRight ls k) × (Good (line ls 2) → ⊥)

-- line t of these is a sample's
abbrev pub SampleAt : List (List ℕ) → ℕ → ℕ → Type 0
SampleAt ls c t = Ended ls t × IsSample c (line ls t)

pub record SamplesRight (ls : List (List ℕ)) (c n : ℕ) (masks lost rest : List ℕ) : Type 0 where
  pub all : (t : ℕ) → t < n → SampleAt ls c t
  pub masks_are : (t : ℕ) → t < n → slice_index masks t ≡ mask_of (line ls t)
  pub lost_are : (t : ℕ) → t < n → slice_index lost t ≡ lost_of (line ls t)
  pub after : drop n ls ≡ lines rest

pub record SampleWrong (ls : List (List ℕ)) (c n t : ℕ) : Type 0 where
  pub below : t < n
  pub all : (j : ℕ) → j < t → SampleAt ls c j
  pub wrong : SampleAt ls c t → ⊥

abbrev pub SamplesOf : List (List ℕ) → ℕ → ℕ → List ℕ → List ℕ → Result (Bor (List ℕ)) FileRefusal → Type 0
SamplesOf ls c n masks lost (Ok rest) = SamplesRight ls c n masks lost rest.now
SamplesOf ls c n masks lost (Err e) = (t : ℕ) × ((e ≡ Form (3 + t)) × SampleWrong ls c n t)

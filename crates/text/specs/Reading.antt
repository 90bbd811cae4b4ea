-- What a rule text says: a rule, or its first fault.
use Rattle.std.specs.Prelude.{◌≡◌, ℕ, ◌+◌, ◌-◌, ◌<◌, ◌≤◌, List, [], ◌++◌, length, drop, Ok, Err, Result, ◌≢◌, slice_index, slice_index_or, slice_range}
use Rattle.sheet.specs.declared.line.Line.{Line}
use Rattle.sheet.specs.declared.refusal.Refusal.{Refusal}
use Rattle.sheet.specs.declared.refusal.Refusal.TheVariants.{Full}
use Rattle.sheet.specs.declared.sealed.Sealed.{Sealed}
use Rattle.sheet.specs.Sheets.{sealed_lines}
use Rattle.text.specs.declared.sign.Prefix.{Prefix}
use Rattle.text.specs.declared.sign.Infix.{Infix}
use Rattle.text.specs.declared.fault.Fault.{Fault}
use Rattle.text.specs.declared.fault.Fault.TheVariants.{Byte, Early, Unknown, Deep, After, Long, Sheet as OfSheet}
use Rattle.text.specs.Guards.{Grown}
use Rattle.lexer.specs.Names.{Letter, Letters}
use Rattle.text.specs.Rules.{Rule, under, pair, spelled, Fits, written, prefix_sign, infix_sign}

-- From the place `at`, inside n levels and after the lines `ls`, the text has the rule r up to the place `end`.
pub record Reads (names : List (List ℕ)) (text : List ℕ) (n : ℕ) (ls : List Line) (at : ℕ) (r : Rule) (end : ℕ) : Type 0 where
  pub spells : drop at text ≡ spelled names r ++ drop end text
  pub within : end ≤ length text
  pub onward : at < end
  pub fits : Fits names n r
  pub room : length (written ls r) ≤ 64
  -- no name goes on at `end`
  pub whole : Letter (slice_index text (end - 1)) → Letter (slice_index text end) → ⊥

-- the byte b stands at the place p
abbrev pub Stands : List ℕ → ℕ → ℕ → Type 0
Stands text p b = (p < length text) × (slice_index text p ≡ b)

-- the byte at p cannot begin a unit
pub record NoUnit (text : List ℕ) (p : ℕ) : Type 0 where
  pub within : p < length text
  pub digit0 : slice_index text p ≢ 48
  pub digit1 : slice_index text p ≢ 49
  pub letter : Letter (slice_index text p) → ⊥
  pub prefix : (s : Prefix) → slice_index text p ≢ prefix_sign s
  pub bracket : slice_index text p ≢ 40

-- From the place `at`, inside n levels and after the lines `ls`, where a unit is to stand, this is the first fault of
-- the text.
pub data Faulty (names : List (List ℕ)) (text : List ℕ) : ℕ → List Line → ℕ → Fault → Type 0 where
  -- a unit is to stand here
  ends : {n : ℕ} {ls : List Line} {at : ℕ} → at ≡ length text → Faulty names text n ls at (Early at)
  wrong : {n : ℕ} {ls : List Line} {at : ℕ} → NoUnit text at → Faulty names text n ls at (Byte at)
  unknown : {n : ℕ} {ls : List Line} {at end : ℕ} → at < end → Letters text at end
      → ((k : ℕ) → k < length names → slice_index_or names k [] ≢ slice_range text at end) → Faulty names text n ls at (Unknown at)
  deep_prefix : {n : ℕ} {ls : List Line} {at : ℕ} (p : Prefix) → Stands text at (prefix_sign p) → n ≡ 32 → Faulty names text n ls at (Deep at)
  deep_pair : {n : ℕ} {ls : List Line} {at : ℕ} → Stands text at 40 → n ≡ 32 → Faulty names text n ls at (Deep at)
  -- the fault is in the unit of a prefix, in the left unit of a pair, or in the right one
  in_under : {n : ℕ} {ls : List Line} {at : ℕ} {f : Fault} (p : Prefix) → Stands text at (prefix_sign p) → n < 32
      → Faulty names text (n + 1) ls (at + 1) f → Faulty names text n ls at f
  in_left : {n : ℕ} {ls : List Line} {at : ℕ} {f : Fault} → Stands text at 40 → n < 32
      → Faulty names text (n + 1) ls (at + 1) f → Faulty names text n ls at f
  in_right : {n : ℕ} {ls : List Line} {at mid : ℕ} {f : Fault} (l : Rule) (s : Infix) → Stands text at 40 → n < 32
      → Reads names text (n + 1) ls (at + 1) l mid → Stands text mid (infix_sign s)
      → Faulty names text (n + 1) (written ls l) (mid + 1) f → Faulty names text n ls at f
  -- after the left unit the text ends, or has no sign of a pair
  ends_left : {n : ℕ} {ls : List Line} {at mid : ℕ} (l : Rule) → Stands text at 40 → n < 32
      → Reads names text (n + 1) ls (at + 1) l mid → mid ≡ length text → Faulty names text n ls at (Early mid)
  no_infix : {n : ℕ} {ls : List Line} {at mid : ℕ} (l : Rule) → Stands text at 40 → n < 32
      → Reads names text (n + 1) ls (at + 1) l mid → mid < length text → ((s : Infix) → infix_sign s ≢ slice_index text mid) → Faulty names text n ls at (Byte mid)
  -- after the right unit the text ends, or has no close bracket
  ends_right : {n : ℕ} {ls : List Line} {at mid end : ℕ} (l : Rule) (s : Infix) (r : Rule) → Stands text at 40 → n < 32
      → Reads names text (n + 1) ls (at + 1) l mid → Stands text mid (infix_sign s)
      → Reads names text (n + 1) (written ls l) (mid + 1) r end → end ≡ length text → Faulty names text n ls at (Early end)
  no_close : {n : ℕ} {ls : List Line} {at mid end : ℕ} (l : Rule) (s : Infix) (r : Rule) → Stands text at 40 → n < 32
      → Reads names text (n + 1) ls (at + 1) l mid → Stands text mid (infix_sign s)
      → Reads names text (n + 1) (written ls l) (mid + 1) r end → end < length text → (slice_index text end ≢ 41) → Faulty names text n ls at (Byte end)
  -- the sheet has no room for the lines of a digit or a name, of a prefix, or of a pair
  full_digit : {n : ℕ} {ls : List Line} {at : ℕ} (v : ℕ) → v ≤ 1 → Stands text at (48 + v) → length ls ≡ 64 → Faulty names text n ls at (OfSheet Full at)
  full_name : {n : ℕ} {ls : List Line} {at end k : ℕ} → at < end → Letters text at end → k < length names
      → slice_index_or names k [] ≡ slice_range text at end → length ls ≡ 64 → Faulty names text n ls at (OfSheet Full at)
  full_under : {n : ℕ} {ls : List Line} {at end : ℕ} (p : Prefix) (r : Rule) → Stands text at (prefix_sign p) → n < 32
      → Reads names text (n + 1) ls (at + 1) r end → 64 < length (written ls (under p r)) → Faulty names text n ls at (OfSheet Full at)
  full_pair : {n : ℕ} {ls : List Line} {at mid end : ℕ} (l : Rule) (s : Infix) (r : Rule) → Stands text at 40 → n < 32
      → Reads names text (n + 1) ls (at + 1) l mid → Stands text mid (infix_sign s)
      → Reads names text (n + 1) (written ls l) (mid + 1) r end → Stands text end 41
      → 64 < length (written ls (pair l s r)) → Faulty names text n ls at (OfSheet Full mid)

-- A rule text is refused for its first fault: its length comes first, and bytes after the rule come last.
pub data FirstFault (names : List (List ℕ)) (text : List ℕ) (ls : List Line) : Fault → Type 0 where
  too_long : 4096 < length text → FirstFault names text ls Long
  inside : {f : Fault} → length text ≤ 4096 → Faulty names text 0 ls 0 f → FirstFault names text ls f
  goes_on : {p : ℕ} (r : Rule) → length text ≤ 4096 → Reads names text 0 ls 0 r p → p < length text → FirstFault names text ls (After p)

-- The text spells the rule r, which has known names, at most 32 levels, and room for its lines after the lines `ls`.
pub record Fitting (names : List (List ℕ)) (text : List ℕ) (ls : List Line) (r : Rule) : Type 0 where
  pub short : length text ≤ 4096
  pub spells : text ≡ spelled names r
  pub fits : Fits names 0 r
  pub room : length (written ls r) ≤ 64

-- A rule text is accepted as the rule r: its lines, the last of which is `line`, stand after those that were there.
pub record Accepted (names : List (List ℕ)) (text : List ℕ) (before after : List Line) (line : ℕ) (r : Rule) : Type 0 where
  pub fitting : Fitting names text before r
  pub lines : after ≡ written before r
  pub front : Grown before after
  pub number : line + 1 ≡ length after

-- What the reader answers and leaves: a text is accepted as a rule, or refused for its first fault, with the lines as
-- they were.
abbrev pub Verdict : List (List ℕ) → List ℕ → List Line → List Line → Result ℕ Fault → Type 0
Verdict names text before after (Ok line) = (r : Rule) × Accepted names text before after line r
Verdict names text before after (Err f) = (after ≡ before) × FirstFault names text before f

-- A text spells one rule at most that fits, and has one first fault at most, and never both.
pub record Unambiguous (names : List (List ℕ)) (text : List ℕ) (ls : List Line) : Type 0 where
  pub one_rule : (q r : Rule) → Fitting names text ls q → Fitting names text ls r → q ≡ r
  pub one_fault : (f g : Fault) → FirstFault names text ls f → FirstFault names text ls g → f ≡ g
  pub apart : (r : Rule) (f : Fault) → Fitting names text ls r → FirstFault names text ls f → ⊥

-- Of the sheet's refusals none but that of a full sheet comes out.
abbrev pub FullAlone : Result ℕ Fault → Type 0
FullAlone r = (e : Refusal) (at : ℕ) → r ≡ Err (OfSheet e at) → e ≡ Full

-- the rule of a text, on a sheet of its own, or its first fault
abbrev pub Read : List (List ℕ) → List ℕ → Result Sealed Fault → Type 0
Read names text (Ok s) = (r : Rule) × Fitting names text [] r × (sealed_lines s ≡ written [] r)
Read names text (Err f) = FirstFault names text [] f

-- Which call a line of a script is: a word that names the call, and the numbers that it takes, parted by one space.
use Rattle.std.specs.Prelude.{ℕ, ◌+◌, ◌/◌, min, cond, List, [], ◌∷◌, length, take, drop, Some, None, vec_items, codes, Option, Vec, ◌==◌, nat_le, slice_index}
use Rattle.std.specs.Str.{bytes_eq}
use Rattle.std.specs.declared.alloc.Global.{Global}
use Rattle.asked.specs.declared.call.BenchCall.{BenchCall}
use Rattle.asked.specs.declared.call.BenchCall.TheVariants as bench
use Rattle.asked.specs.declared.call.Call.{Call}
use Rattle.asked.specs.declared.call.Call.TheVariants as call
use Rattle.asked.specs.declared.call.SheetCall.{SheetCall}
use Rattle.asked.specs.declared.call.SheetCall.TheVariants as sheet
use Rattle.asked.specs.declared.call.TapeSizes.{TapeSizes}
use Rattle.asked.specs.declared.call.Verb.{Verb}
use Rattle.asked.specs.declared.call.Verb.TheVariants as verb
use Rattle.asked.specs.Words.{numbers}
use Rattle.lexer.specs.Parts.{parts}

-- what a line may say: a call, with the numbers that it takes as lists
pub data Said : Type 0 where
  OnSheet : SheetCall → Said
  -- sizes and masks
  Tape : TapeSizes → List ℕ → Said
  -- sizes, masks and lost masks
  Gapped : TapeSizes → List ℕ → List ℕ → Said
  -- teeth, gap and start
  Wheel : ℕ → ℕ → ℕ → Said
  Cells : ℕ → Said
  Rows : ℕ → Said
  -- the number of the row that comes after the last, and the rows
  Check : ℕ → List ℕ → Said

-- what a call says
abbrev pub said_to_bench : BenchCall → Said
said_to_bench (bench.Tape sizes masks) = Tape sizes (vec_items masks)
said_to_bench (bench.Gapped sizes masks lost) = Gapped sizes (vec_items masks) (vec_items lost)
said_to_bench (bench.Wheel teeth gap start) = Wheel teeth gap start
said_to_bench (bench.Cells n) = Cells n
said_to_bench (bench.Rows n) = Rows n
said_to_bench (bench.Check back rows) = Check back (vec_items rows)

abbrev pub said : Call → Said
said (call.OnSheet c) = OnSheet c
said (call.OnBench c) = said_to_bench c

abbrev pub said_in : Option Call → Option Said
said_in None = None
said_in (Some c) = Some (said c)

abbrev pub verb_of : List ℕ → Option Verb
verb_of w =
    cond (bytes_eq w (codes "write")) (Some verb.Write)
    (cond (bytes_eq w (codes "strike")) (Some verb.Strike)
    (cond (bytes_eq w (codes "seal")) (Some verb.Seal)
    (cond (bytes_eq w (codes "reopen")) (Some verb.Reopen)
    (cond (bytes_eq w (codes "translate")) (Some verb.Translate)
    (cond (bytes_eq w (codes "tape")) (Some verb.Tape)
    (cond (bytes_eq w (codes "gapped")) (Some verb.Gapped)
    (cond (bytes_eq w (codes "wheel")) (Some verb.Wheel)
    (cond (bytes_eq w (codes "cells")) (Some verb.Cells)
    (cond (bytes_eq w (codes "rows")) (Some verb.Rows)
    (cond (bytes_eq w (codes "judge")) (Some verb.Judge)
    (cond (bytes_eq w (codes "run")) (Some verb.Run)
    (cond (bytes_eq w (codes "check")) (Some verb.Check) None))))))))))))

-- the name of a call
abbrev pub sheet_verb : SheetCall → Verb
sheet_verb (sheet.Write c a b) = verb.Write
sheet_verb sheet.Strike = verb.Strike
sheet_verb sheet.Seal = verb.Seal
sheet_verb sheet.Reopen = verb.Reopen
sheet_verb sheet.Translate = verb.Translate
sheet_verb sheet.Judge = verb.Judge
sheet_verb sheet.Run = verb.Run

abbrev pub bench_verb : BenchCall → Verb
bench_verb (bench.Tape sizes masks) = verb.Tape
bench_verb (bench.Gapped sizes masks lost) = verb.Gapped
bench_verb (bench.Wheel teeth gap start) = verb.Wheel
bench_verb (bench.Cells n) = verb.Cells
bench_verb (bench.Rows n) = verb.Rows
bench_verb (bench.Check back rows) = verb.Check

abbrev pub call_verb : Call → Verb
call_verb (call.OnSheet c) = sheet_verb c
call_verb (call.OnBench c) = bench_verb c

-- a number past 8 bits counts as 255, which is refused like it
abbrev pub byte : ℕ → ℕ
byte n = min n 255

-- the call takes no number
abbrev pub alone : Said → List ℕ → Option Said
alone s ns = cond (length ns == 0) (Some s) None

-- a code and two operands
abbrev pub writes : List ℕ → Option Said
writes ns = cond (length ns == 3) (Some (OnSheet (sheet.Write (byte (slice_index ns 0)) (byte (slice_index ns 1)) (byte (slice_index ns 2))))) None

abbrev pub sizes_in : List ℕ → TapeSizes
sizes_in ns = record { signals = slice_index ns 0; stem = slice_index ns 1; cycle = slice_index ns 2 }

-- three sizes, and then masks
abbrev pub tapes : List ℕ → Option Said
tapes ns = cond (nat_le 3 (length ns)) (Some (Tape (sizes_in ns) (drop 3 ns))) None

-- half of the numbers, rounded up
abbrev pub half : List ℕ → ℕ
half ns = (length ns + 1) / 2

-- three sizes, and then masks in the first half, lost masks in the other
abbrev pub halved : TapeSizes → List ℕ → Said
halved sizes ns = Gapped sizes (take (half ns) ns) (drop (half ns) ns)

abbrev pub gaps : List ℕ → Option Said
gaps ns = cond (nat_le 3 (length ns)) (Some (halved (sizes_in ns) (drop 3 ns))) None

abbrev pub turns : List ℕ → Option Said
turns ns = cond (length ns == 3) (Some (Wheel (slice_index ns 0) (slice_index ns 1) (slice_index ns 2))) None

-- the number, if it is one alone
abbrev pub only : List ℕ → Option ℕ
only ns = cond (length ns == 1) (Some (slice_index ns 0)) None

-- how many cells or rows are lent
abbrev pub lends : (ℕ → Said) → List ℕ → Option Said
lends these ns = cond (length ns == 1) (Some (these (slice_index ns 0))) None

-- the row that comes after the last, and then rows
abbrev pub checks : List ℕ → Option Said
checks ns = cond (nat_le 1 (length ns)) (Some (Check (slice_index ns 0) (drop 1 ns))) None

-- the call of this name with these numbers
abbrev pub call_of : Verb → List ℕ → Option Said
call_of verb.Write ns = writes ns
call_of verb.Strike ns = alone (OnSheet sheet.Strike) ns
call_of verb.Seal ns = alone (OnSheet sheet.Seal) ns
call_of verb.Reopen ns = alone (OnSheet sheet.Reopen) ns
call_of verb.Translate ns = alone (OnSheet sheet.Translate) ns
call_of verb.Tape ns = tapes ns
call_of verb.Gapped ns = gaps ns
call_of verb.Wheel ns = turns ns
call_of verb.Cells ns = lends Cells ns
call_of verb.Rows ns = lends Rows ns
call_of verb.Judge ns = alone (OnSheet sheet.Judge) ns
call_of verb.Run ns = alone (OnSheet sheet.Run) ns
call_of verb.Check ns = checks ns

abbrev pub named : Option Verb → Option (List ℕ) → Option Said
named None ns = None
named (Some v) None = None
named (Some v) (Some ns) = call_of v ns

abbrev pub spoken : List (List ℕ) → Option Said
spoken [] = None
spoken (w ∷ ws) = named (verb_of w) (numbers ws)

-- the call that a line is, if it is one
abbrev pub call_on : List ℕ → Option Said
call_on line = spoken (parts 32 line)

-- the numbers that were read
abbrev pub items_in : Option (Vec ℕ Global) → Option (List ℕ)
items_in None = None
items_in (Some v) = Some (vec_items v)

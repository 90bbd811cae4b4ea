-- What is left of a line without the calls that write runs out.
use Rattle.std.proofs.Common.{◌≡◌, ℕ, ◌==◌, Bool, true, false, cond, List, length, Some, None, Option, nat_le, slice_index, drop, refl, ap}
use Rattle.asked.specs.Reading.{Said, OnSheet, Tape, Wheel, Cells, Check, named, sizes_in, halved, byte}
use Rattle.asked.specs.Runs.{is_for_runs, said_verb, said_without_runs}
use Rattle.asked.specs.declared.call.Verb.{Verb}
use Rattle.asked.specs.declared.call.Verb.TheVariants as verb
use Rattle.asked.specs.declared.call.SheetCall.TheVariants as sheet

said_on : (b : Bool) (s : Said) → is_for_runs (said_verb s) ≡ false → said_without_runs (cond b (Some s) None) ≡ cond b (Some s) None
said_on true s e = ap (λ t. cond t None (Some s)) e
said_on false s e = refl

pub kept : (v : Verb) (o : Option (List ℕ)) → is_for_runs v ≡ false → said_without_runs (named (Some v) o) ≡ named (Some v) o
kept v None e = refl
kept verb.Write (Some ns) e = said_on (length ns == 3) (OnSheet (sheet.Write (byte (slice_index ns 0)) (byte (slice_index ns 1)) (byte (slice_index ns 2)))) refl
kept verb.Strike (Some ns) e = said_on (length ns == 0) (OnSheet sheet.Strike) refl
kept verb.Seal (Some ns) e = said_on (length ns == 0) (OnSheet sheet.Seal) refl
kept verb.Reopen (Some ns) e = said_on (length ns == 0) (OnSheet sheet.Reopen) refl
kept verb.Translate (Some ns) e = said_on (length ns == 0) (OnSheet sheet.Translate) refl
kept verb.Tape (Some ns) e = said_on (nat_le 3 (length ns)) (Tape (sizes_in ns) (drop 3 ns)) refl
kept verb.Gapped (Some ns) e = said_on (nat_le 3 (length ns)) (halved (sizes_in ns) (drop 3 ns)) refl
kept verb.Wheel (Some ns) e = said_on (length ns == 3) (Wheel (slice_index ns 0) (slice_index ns 1) (slice_index ns 2)) refl
kept verb.Cells (Some ns) e = said_on (length ns == 1) (Cells (slice_index ns 0)) refl
kept verb.Rows (Some ns) e = let z : ◌≡◌ {A = Bool} true false = e in cc
kept verb.Judge (Some ns) e = said_on (length ns == 0) (OnSheet sheet.Judge) refl
kept verb.Run (Some ns) e = let z : ◌≡◌ {A = Bool} true false = e in cc
kept verb.Check (Some ns) e = said_on (nat_le 1 (length ns)) (Check (slice_index ns 0) (drop 1 ns)) refl

-- Gapped tapes: tapes with lost masks as well; where a lost bit is set, the value is lost.
use Rattle.std.proofs.Common.{ap}
use Rattle.std.specs.Prelude.{ℕ, Bool, true, false, List, slice_index}
use Rattle.recording.specs.Tape.{place, place_repeats, bit}
use Rattle.recording.specs.Word.{Sizes, Word}
use Rattle.recording.specs.declared.truth.Ternary.{Ternary}
use Rattle.recording.specs.declared.truth.Ternary.TheVariants.{No, Lost, Yes}

-- what is seen of a value, by its lost bit and its mask's bit
abbrev pub seen : Bool → Bool → Ternary
seen true true = Lost
seen true false = Lost
seen false true = Yes
seen false false = No

-- the word of a gapped tape
abbrev pub gapped : (signals stem cycle : ℕ) → List ℕ → List ℕ → Sizes signals stem cycle → Word Ternary
gapped signals stem cycle masks lost sizes = record {
  signals = signals;
  stem = stem;
  cycle = cycle;
  sizes = sizes;
  at = λ i t. seen (bit (slice_index lost (place stem cycle t)) i) (bit (slice_index masks (place stem cycle t)) i);
  repeats = λ i t below past. ap (λ p. seen (bit (slice_index lost p) i) (bit (slice_index masks p) i)) (place_repeats stem cycle t sizes.3 past);
}

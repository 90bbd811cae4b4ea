-- Square waves: one signal, high for `on` samples and low for `off` by turns.
use Rattle.std.proofs.Common.{ap}
use Rattle.std.specs.Prelude.{ℕ, ◌+◌, ◌%◌, cond, nat_lt}
use Rattle.std.proofs.Math.Nat.{add-mod_right}
use Rattle.recording.specs.Word.{Sizes, Word}

-- the word of a wave
abbrev pub wave : {V : Type 0} → V → V → (on off : ℕ) → Sizes 1 0 (on + off) → Word V
wave high low on off sizes = record {
  signals = 1;
  stem = 0;
  cycle = on + off;
  sizes = sizes;
  at = λ i t. cond (nat_lt (t % (on + off)) on) high low;
  repeats = λ i t below past. ap (λ n. cond (nat_lt n on) high low) (add-mod_right t (on + off));
}

-- What the maker of waves answers: a wave of the word that its arguments describe, or none exactly where no cycle of
-- 1 to 64 samples comes of them.
use Rattle.std.specs.Prelude.{◌≡◌, ℕ, ◌+◌, Some, None, Option}
use Rattle.recording.specs.Word.{Sizes, Word}
use Rattle.foreign.specs.Waves.{wave}
use Rattle.foreign.specs.declared.wave.Wave.{Wave}

abbrev pub wave_word : {V : Type 0} → Wave V → Word V
wave_word w = wave w.high w.low w.on w.off w.sizes

abbrev pub WaveMade : {V : Type 0} → V → V → (on off : ℕ) → Option (Wave V) → Type 0
WaveMade high low on off None = Sizes 1 0 (on + off) → ⊥
WaveMade high low on off (Some w) = (sizes : Sizes 1 0 (on + off)) × (wave_word w ≡ wave high low on off sizes)

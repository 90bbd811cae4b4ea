use Rattle.std.proofs.Common.{◌≡◌, ℕ, ◌<◌, get_or, drop}
use Rattle.bench_file.specs.Files.{lines, line}
use Rattle.bench_file.specs.Lines.{mask_of, lost_of}
use Rattle.bench_file.specs.Steps.{SampleAt}
use Rattle.bench_file.proofs.file.read_samples.Given as goal

-- the lines so far are samples, and `rest` has the others
abbrev pub invariant-loop-t : goal.invariant-loop-t
invariant-loop-t l =
    ((j : ℕ) → j < l.t → SampleAt (lines l.bytes) l.signals j)
    × ((j : ℕ) → j < l.t → get_or l.masks j 0 ≡ mask_of (line (lines l.bytes) j))
    × ((j : ℕ) → j < l.t → get_or l.lost j 0 ≡ lost_of (line (lines l.bytes) j))
    × (drop l.t (lines l.bytes) ≡ lines l.rest)

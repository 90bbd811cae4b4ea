-- The marks of a sample.
use Rattle.std.proofs.Common.{◌≡◌, ℕ, suc, ◌-◌, ◌<◌, ◌≤◌, eqb, List, [], ◌∷◌, length, get_or, None, ap, subst, arith}
use Rattle.std.proofs.lemmas.List.Splits.{length-slice_split}
use Rattle.lexer.specs.Names.{spaced}
use Rattle.lexer.specs.Parts.{parts}
use Rattle.bench_file.specs.Lines.{IsMark, IsSample, field}
use Rattle.bench_file.specs.Steps.{SampleOf}

-- there is always a part
pub parts_some : (s : ℕ) (xs : List ℕ) → 0 < length (parts s xs)
parts_some s xs = omega (arith, length-slice_split (λ b. eqb b s) xs)

-- the first mark, and the others

next_field : (l p : List ℕ) (ps : List (List ℕ)) (k : ℕ) → spaced l ≡ p ∷ ps → field l (suc k) ≡ get_or ps k []
next_field l p ps k e = ap (λ (xs : List (List ℕ)). get_or xs (suc k) []) e

pub bad_count : (c : ℕ) (l rest p : List ℕ) → c ≤ 1 → spaced l ≡ p ∷ spaced rest → IsSample c l → ⊥
bad_count c l rest p few e s = let len = ap length e in let g = s.signals in omega (arith, len, g, few, parts_some 32 rest)

pub bad_rest : (c : ℕ) (l rest p : List ℕ) → 1 < c → spaced l ≡ p ∷ spaced rest → SampleOf (c - 1) rest None → IsSample c l → ⊥
bad_rest c l rest p some e bad s =
    let len = ap length e in
    let g = s.signals in
    bad
    (
    record {
      signals = omega (arith, len, g, some);
      marks = λ k lt. subst IsMark (next_field l p (spaced rest) k e) (s.marks (suc k) (omega (arith, lt, some)));
    }
    )

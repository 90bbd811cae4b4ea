-- The header's numerals.
use Rattle.std.proofs.Common.{◌≡◌, ℕ, ◌+◌, List, [], ◌∷◌, ◌++◌, length, get_or, drop, Some, Option, sym, ap, ◌∙◌, subst, append_assoc, arith, Bor}
use Rattle.std.proofs.lemmas.List.{length-append, drop_at}
use Rattle.lexer.specs.Names.{spaced}
use Rattle.lexer.specs.Parts.{Joins}
use Rattle.bench_file.specs.Lines.{value, field, stem_of, cycle_of, rule_of, IsNumeral, IsHeader}
use Rattle.bench_file.specs.Steps.{Counted}
use Rattle.bench_file.proofs.Marks.{parts_some}

-- the header's fields, as the line is cut at its first two spaces
pub parted : (l after rule p q : List ℕ) → spaced l ≡ p ∷ spaced after → spaced after ≡ q ∷ spaced rule → spaced l ≡ p ∷ q ∷ spaced rule
parted l after rule p q e f = e ∙ ap (λ (ps : List (List ℕ)). p ∷ ps) f

pub rest_of_line : (l after rule p q : List ℕ) → spaced l ≡ p ∷ q ∷ spaced rule → l ≡ p ++ 32 ∷ after → after ≡ q ++ 32 ∷ rule → rule ≡ rule_of l
rest_of_line l after rule p q e a b =
    let front = p ++ 32 ∷ (q ++ 32 ∷ []) in
    let whole : l ≡ front ++ rule = a ∙ ap (λ (x : List ℕ). p ++ 32 ∷ x) b ∙ sym (simp append_assoc) in
    let n0 : field l 0 ≡ p = ap (λ (ps : List (List ℕ)). get_or ps 0 []) e in
    let n1 : field l 1 ≡ q = ap (λ (ps : List (List ℕ)). get_or ps 1 []) e in
    let m0 = ap length n0 in
    let m1 = ap length n1 in
    let m : length front ≡ length (field l 0) + length (field l 1) + 2 = omega (arith, length-append p (32 ∷ (q ++ 32 ∷ [])), length-append q (32 ∷ []), m0, m1) in
    sym (ap (drop (length (field l 0) + length (field l 1) + 2)) whole ∙ drop_at front rule _ m)

pub header_of : (l rule p q : List ℕ) (u v : ℕ) → spaced l ≡ p ∷ q ∷ spaced rule → Counted p (Some u) → Counted q (Some v)
    → IsHeader l × (u ≡ stem_of l) × (v ≡ cycle_of l)
header_of l rule p q u v e a b =
    let n0 : p ≡ field l 0 = sym (ap (λ (ps : List (List ℕ)). get_or ps 0 []) e) in
    let n1 : q ≡ field l 1 = sym (ap (λ (ps : List (List ℕ)). get_or ps 1 []) e) in
    let m = ap length e in (
      record { spaces = omega (arith, m, parts_some 32 rule); stem = subst IsNumeral n0 a.0; cycle = subst IsNumeral n1 b.0 },
      a.1 ∙ ap value n0,
      b.1 ∙ ap value n1,
    )

pub joins_is : (s : ℕ) (bytes first : List ℕ) (o p : Option (Bor (List ℕ))) → Joins s bytes first o → o ≡ p → Joins s bytes first p
joins_is s bytes first o p h e = subst (Joins s bytes first) e h

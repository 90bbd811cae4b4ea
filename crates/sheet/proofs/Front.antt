-- The lines of a draft, as many as its count, and what the ledger answers and leaves in each case.
use Rattle.std.proofs.Common.{not, refl, ◌≡◌, ℕ, zero, suc, Bool, true, false, cond, ◌&&◌, eqb, ltb, List, [], ◌∷◌, map, length, get_or, Some, None, Option, subst, arith}
use Rattle.std.proofs.lemmas.Bool.{not-true, not-false}
use Rattle.std.proofs.lemmas.Bool.Decides.{nat_tests}
use Rattle.sheet.specs.declared.draft.Draft.{Draft}
use Rattle.sheet.specs.declared.line.Line.{Line}
use Rattle.sheet.specs.Ledger.{Ledger, Refused, Write, fed, pushed}
use Rattle.sheet.specs.Sheets.{lines_of}
use Rattle.sheet.specs.Table.{lines_with, named_line, operands_of, operands, fits, blank, Sheet}
use Rattle.sheet.proofs.Lowering.{fits_lower}

pub length_lines : (d : Draft) → length (lines_of d) ≡ length d.lines
length_lines d = refl

-- the lines of a draft name lower lines
pub draft_sheet : (d : Draft) → Sheet (lines_of d)
draft_sheet d k h = fits_lower k (get_or d.lines k blank) (d.lower k h)

-- P of each item of a list, as a tuple
abbrev Each : {A : Type 0} → (A → Type 0) → List A → Type 0
Each P [] = Unit {0}
Each P (x ∷ xs) = P x × Each P xs

each_get_or : {A : Type 0} (P : A → Type 0) (d : A) → P d → (xs : List A) → Each P xs → (k : ℕ) → P (get_or xs k d)
each_get_or P d none [] h k = none
each_get_or P d none (x ∷ xs) h zero = h.0
each_get_or P d none (x ∷ xs) h (suc k) = each_get_or P d none xs h.1 k

-- the operands of a line that a code names, and whether it fits, are what the table asks of it
abbrev Asked : ℕ → ℕ → ℕ → Option Line → Type 0
Asked n a b None = Unit {0}
Asked n a b (Some l) = operands_of l n a b ≡ ((eqb (operands l).0 a && eqb (operands l).1 b) && fits n l)

bit_asked : (a b : ℕ) → (ltb a 2 && eqb b 0) ≡ ((eqb (cond (eqb a 1) 1 0) a && eqb 0 b) && true)
bit_asked a b = grind (arith, nat_tests)

one_asked : (p : Bool) (a b : ℕ) → (p && eqb b 0) ≡ ((eqb a a && eqb 0 b) && p)
one_asked p a b = grind (arith, nat_tests)

two_asked : (p : Bool) (a b : ℕ) → p ≡ ((eqb a a && eqb b b) && p)
two_asked p a b = grind (arith, nat_tests)

named_asked : (n c a b : ℕ) (l : Line) → named_line c a b ≡ Some l → operands_of l n a b ≡ ((eqb (operands l).0 a && eqb (operands l).1 b) && fits n l)
named_asked n c a b l e =
    let one : (ltb a n && eqb b 0) ≡ ((eqb a a && eqb 0 b) && ltb a n) = one_asked (ltb a n) a b in
    let two : (ltb a n && ltb b n) ≡ ((eqb a a && eqb b b) && (ltb a n && ltb b n)) = two_asked (ltb a n && ltb b n) a b in
    subst (Asked n a b) e
    (each_get_or (Asked n a b) None tt (map Some (lines_with a b)) (bit_asked a b, (one_asked (ltb a 32) a b, (one, (two, (two, (one, (two, (two, (one, (one, (two, (two, tt)))))))))))) c)

-- what the ledger says of a line that a code names: with other operands than the line's own it is refused, else it is
-- pushed
pub write_operand : (s : Ledger) (c a b : ℕ) (l : Line) → named_line c a b ≡ Some l → not (eqb (operands l).0 a && eqb (operands l).1 b) ≡ true → (Refused 2, s) ≡ fed s (Write c a b)
write_operand s c a b l e f = simp (e, named_asked (length s.lines) c a b l e, not-true _ f)

pub write_pushed : (s : Ledger) (c a b : ℕ) (l : Line) → named_line c a b ≡ Some l → not (eqb (operands l).0 a && eqb (operands l).1 b) ≡ false → pushed s l ≡ fed s (Write c a b)
write_pushed s c a b l e f = simp (e, named_asked (length s.lines) c a b l e, not-false _ f)

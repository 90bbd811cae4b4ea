-- How many lines look back.
use Rattle.std.proofs.Common.{◌≡◌, ℕ, zero, suc, ◌≤◌, Bool, true, false, cond, eqb, List, [], ◌∷◌, length, take, sym, refl, ap, ◌∙◌, arith}
use Rattle.std.specs.Int.{from_bool}
use Rattle.std.specs.List.{count_by}
use Rattle.std.proofs.Math.Seq.{take-length, take-suc}
use Rattle.std.proofs.lemmas.List.Sums.{sum_by-append}
use Rattle.sheet.specs.declared.line.Line.{Line}
use Rattle.sheet.specs.declared.line.Line.TheVariants.{Const, Signal, Not, And, Or, Next, Until, WeakUntil, Previous, WeakPrevious, Since, WeakSince}
use Rattle.sheet.specs.Table.{blank, line, past, pasts}

-- a line looks back or not
pub past_bit : (x : Line) → from_bool (eqb (past x) 1) ≡ past x
past_bit (Const b) = refl
past_bit (Signal i) = refl
past_bit (Not a) = refl
past_bit (And a b) = refl
past_bit (Or a b) = refl
past_bit (Next a) = refl
past_bit (Until a b) = refl
past_bit (WeakUntil a b) = refl
past_bit (Previous a) = refl
past_bit (WeakPrevious a) = refl
past_bit (Since a b) = refl
past_bit (WeakSince a b) = refl

bit_as : (b : Bool) → cond b 1 0 ≡ from_bool b
bit_as true = refl
bit_as false = refl

count_taken : (lines : List Line) (n : ℕ) → n ≤ length lines → count_by (λ x. eqb (past x) 1) (take n lines) ≡ pasts (line lines) n
count_taken lines zero h = refl
count_taken lines (suc n) h =
    let one : cond (eqb (past (line lines n)) 1) 1 0 ≡ past (line lines n) = bit_as (eqb (past (line lines n)) 1) ∙ past_bit (line lines n) in
    let before = count_taken lines n (omega arith) in
    rw (take-suc lines n blank h, sum_by-append (λ x. cond (eqb (past x) 1) 1 0) (take n lines) (line lines n ∷ [])) (omega arith)

pub count_is : (lines : List Line) → count_by (λ x. eqb (past x) 1) lines ≡ pasts (line lines) (length lines)
count_is lines = ap (count_by (λ x. eqb (past x) 1)) (sym (take-length lines)) ∙ count_taken lines (length lines) (omega arith)

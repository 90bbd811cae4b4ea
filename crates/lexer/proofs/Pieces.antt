-- The parts of a row of bytes.
use Rattle.std.proofs.Common.{◌≡◌, ℕ, suc, ◌+◌, ◌-◌, ◌<◌, cond, eqb, List, ◌∷◌, length, get_or, take, drop, Option, Some, None, ltb, sym, ap, ◌∙◌, arith, Bor}
use Rattle.std.proofs.lemmas.List.{drop-drop, length-drop, get_or-drop, take_all}
use Rattle.std.proofs.lemmas.Bool.Decides.{nat_tests}
use Rattle.std.proofs.lemmas.List.Splits.{slice_split_first}
use Rattle.std.specs.List.{position_or_len}
use Rattle.lexer.specs.Parts.{parts, rest_parts}

-- the bytes, cut at the place of the first separator
pub cut : (s : ℕ) (bytes : List ℕ) (e : ℕ) → Some e ≡ cond (ltb (position_or_len (λ b. eqb b s) bytes) (length bytes)) (Some (position_or_len (λ b. eqb b s) bytes)) None
    → parts s bytes ≡ take e bytes ∷ parts s (take (length bytes - (e + 1)) (drop (e + 1) bytes))
cut s bytes e f =
    let n : ℕ = position_or_len (λ b. eqb b s) bytes in
    let below : n < length bytes = grind (arith, nat_tests) in
    let same : n ≡ e = grind (arith, nat_tests) in
    let p = slice_split_first (λ b. eqb b s) bytes 0 below in
    let whole : take (length bytes - (e + 1)) (drop (e + 1) bytes) ≡ drop (e + 1) bytes = take_all _ _ (omega (arith, length-drop (e + 1) bytes)) in
    rw whole (rw (← same) p)

-- what follows the first part, told by what was cut off
pub rest_is : (s : ℕ) (ys : List (List ℕ)) (x : List ℕ) (o p : Option (Bor (List ℕ))) → ys ≡ x ∷ rest_parts s o → o ≡ p → ys ≡ x ∷ rest_parts s p
rest_is s ys x o p e q = e ∙ ap (λ z. x ∷ rest_parts s z) q

-- the item of a number, from the items that are left there
pub drop_first : {A : Type 0} (xs : List A) (d : A) (k : ℕ) (x : A) (rest : List A) → drop k xs ≡ x ∷ rest → (k < length xs) × (x ≡ get_or xs k d)
drop_first xs d k x rest e =
    let l : length (drop k xs) ≡ suc (length rest) = ap length e in
    let m = length-drop k xs in
    let z : k + 0 ≡ k = omega arith in
    (omega (arith, l, m), ap (λ ys. get_or ys 0 d) (sym e) ∙ get_or-drop k xs 0 d ∙ ap (λ (j : ℕ). get_or xs j d) z)

pub drop_next : {A : Type 0} (xs : List A) (k : ℕ) (x : A) (rest : List A) → drop k xs ≡ x ∷ rest → drop (k + 1) xs ≡ rest
drop_next xs k x rest e = sym (drop-drop 1 k xs) ∙ ap (λ ys. drop 1 ys) e

-- Numbers that are converted to fewer bits, one by one.
use Rattle.std.proofs.Common.{◌≡◌, ℕ, ◌+◌, ◌<◌, ◌≤◌, List, [], ◌∷◌, ◌++◌, length, get_or, take, Some, None, vec_items, Option, Result, Vec, sym, ◌∙◌, subst, arith}
use Rattle.std.specs.declared.alloc.Global.{Global}
use Rattle.std.specs.List.{AllZip}
use Rattle.std.specs.Result.{OkIff}
use Rattle.std.proofs.lemmas.List.{take_more}
use Rattle.std.proofs.lemmas.List.Elements.{same_from_all_zip}
use Rattle.session.specs.Narrowing.{Narrowed}

pub zip_push : {X Y : Type 0} (R : X → Y → Type 0) (xs : List X) (ys : List Y) (x : X) (y : Y) → AllZip R xs ys → R x y → AllZip R (xs ++ x ∷ []) (ys ++ y ∷ [])
zip_push R [] [] x y all one = (one, tt)
zip_push R [] (b ∷ ys) x y all one = absurd all
zip_push R (a ∷ xs) [] x y all one = absurd all
zip_push R (a ∷ xs) (b ∷ ys) x y all one = (all.0, zip_push R xs ys x y all.1 one)

pub one_more : {Y : Type 0} (R : ℕ → Y → Type 0) (ns : List ℕ) (i : ℕ) (ys zs : List Y) (y : Y) → i < length ns → zs ≡ ys ++ y ∷ [] → AllZip R (take i ns) ys → R (get_or ns i 0) y → AllZip R (take (i + 1) ns) zs
one_more R ns i ys zs y inside is all one =
    subst (AllZip R (take (i + 1) ns)) (sym is)
    (subst (λ ms. AllZip R ms (ys ++ y ∷ [])) (sym (take_more ns i 0 inside)) (zip_push R (take i ns) ys (get_or ns i 0) y all one))

-- below a number, as numbers are converted to so many bits
abbrev pub below : {E : Type 0} → ℕ → ℕ → Result ℕ E → Type 0
below past n r = OkIff r (n < past) n

-- where no numbers come back, one is past the bits
pub past_one : (E : Type 0) (past : ℕ) (ns : List ℕ) (o : Option (Vec ℕ Global)) → o ≡ None → Narrowed {E = E} (below past) ns o → (k : ℕ) × (k < length ns) × (past ≤ get_or ns k 0)
past_one E past ns o e n =
    let p = subst (Narrowed {E = E} (below past) ns) e n in
    let out : get_or ns p.0 0 < past → ⊥ = p.3 in
    (p.0, p.1, grind (arith, out))

-- numbers that come back are the same
pub same_numbers : (E : Type 0) (past : ℕ) (ns xs : List ℕ) (o : Option (Vec ℕ Global)) (v : Vec ℕ Global) → xs ≡ vec_items v → o ≡ Some v → Narrowed {E = E} (below past) ns o → xs ≡ ns
same_numbers E past ns xs o v e is n =
    e ∙ same_from_all_zip _ ns (vec_items v) (subst (Narrowed {E = E} (below past) ns) is n) (λ x y h. h.1)

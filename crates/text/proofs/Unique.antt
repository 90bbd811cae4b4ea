-- A text spells at most one rule, and a text that spells a rule that fits has no fault.
use Rattle.std.proofs.Common.{◌≡◌, ℕ, suc, ◌+◌, ◌-◌, ◌<◌, ◌≤◌, Bool, true, cond, ◌&&◌, eqb, ◌⊎◌, List, [], ◌∷◌, ◌++◌, length, get_or, take, drop, sym, refl, ap, ◌∙◌, subst, inl, inr, suc-le-suc, arith}
use Rattle.std.proofs.lemmas.List.{append-nil, append_assoc, length-append, length-drop, length-take-le, drop-drop, drop_all, get_or-drop, get_or-take, get_or_at, take-append-drop}
use Rattle.std.proofs.lemmas.Bool.{and_parts, and_from}
use Rattle.std.proofs.lemmas.Bool.Decides.{nat_tests}
use Rattle.std.specs.Char.{is_ascii_lowercase}
use Rattle.lexer.specs.Names.{Letter, Letters, IsName, AllNames, AllDifferent}
use Rattle.text.specs.declared.sign.Prefix.{Prefix}
use Rattle.text.specs.declared.sign.Prefix.TheVariants.{Not, Next, Previous, WeakPrevious, Finally, Globally, Once, Historically}
use Rattle.text.specs.declared.sign.Infix.{Infix}
use Rattle.text.specs.declared.sign.Infix.TheVariants.{And, Or, Implies, Until, WeakUntil, Since, WeakSince}
use Rattle.sheet.specs.declared.line.Line.{Line}
use Rattle.sheet.specs.declared.line.Line.TheVariants as line
use Rattle.text.specs.declared.fault.Fault.{Fault}
use Rattle.text.specs.Rules.{Rule, truth, signal, under, pair, spelled, Fits, written, last, prefix_sign, infix_sign, prefix_lines, infix_lines}
use Rattle.text.specs.Reading.{Reads, NoUnit, Faulty, ends, wrong, unknown, deep_prefix, deep_pair, in_under, in_left, in_right, ends_left, no_infix, ends_right, no_close, full_digit, full_name, full_under, full_pair, FirstFault, too_long, inside, goes_on, Fitting}
use Rattle.text.proofs.Parse.{past, prefix_among, sign_no_digit, sign_no_letter}

-- the signs

abbrev pub prefix_at : ℕ → Prefix
prefix_at b = cond (eqb b 33) Not (cond (eqb b 88) Next (cond (eqb b 89) Previous (cond (eqb b 90) WeakPrevious (cond (eqb b 70) Finally (cond (eqb b 71) Globally (cond (eqb b 79) Once Historically))))))

prefix_back : (p : Prefix) → prefix_at (prefix_sign p) ≡ p
prefix_back Not = refl
prefix_back Next = refl
prefix_back Previous = refl
prefix_back WeakPrevious = refl
prefix_back Finally = refl
prefix_back Globally = refl
prefix_back Once = refl
prefix_back Historically = refl

pub same_prefix : (p q : Prefix) → prefix_sign p ≡ prefix_sign q → p ≡ q
same_prefix p q e = sym (prefix_back p) ∙ ap prefix_at e ∙ prefix_back q

abbrev infix_from : ℕ → Infix
infix_from b = cond (eqb b 38) And (cond (eqb b 124) Or (cond (eqb b 62) Implies (cond (eqb b 85) Until (cond (eqb b 87) WeakUntil (cond (eqb b 83) Since WeakSince)))))

infix_back : (s : Infix) → infix_from (infix_sign s) ≡ s
infix_back And = refl
infix_back Or = refl
infix_back Implies = refl
infix_back Until = refl
infix_back WeakUntil = refl
infix_back Since = refl
infix_back WeakSince = refl

pub same_infix : (s t : Infix) → infix_sign s ≡ infix_sign t → s ≡ t
same_infix s t e = sym (infix_back s) ∙ ap infix_from e ∙ infix_back t

infix_no_letter : (s : Infix) → Letter (infix_sign s) → ⊥
infix_no_letter And l = omega (arith, l.0)
infix_no_letter Or l = omega (arith, l.1)
infix_no_letter Implies l = omega (arith, l.0)
infix_no_letter Until l = omega (arith, l.0)
infix_no_letter WeakUntil l = omega (arith, l.0)
infix_no_letter Since l = omega (arith, l.0)
infix_no_letter WeakSince l = omega (arith, l.0)

pub prefix_no_bracket : (p : Prefix) → prefix_sign p ≡ 40 → ⊥
prefix_no_bracket Not e = omega (arith, e)
prefix_no_bracket Next e = omega (arith, e)
prefix_no_bracket Previous e = omega (arith, e)
prefix_no_bracket WeakPrevious e = omega (arith, e)
prefix_no_bracket Finally e = omega (arith, e)
prefix_no_bracket Globally e = omega (arith, e)
prefix_no_bracket Once e = omega (arith, e)
prefix_no_bracket Historically e = omega (arith, e)

pub prefix_no_letter : (p : Prefix) → Letter (prefix_sign p) → ⊥
prefix_no_letter p l = sign_no_letter (prefix_sign p) (prefix_among p (prefix_sign p) refl) l

pub prefix_no_digit : (p : Prefix) (v : ℕ) → v ≤ 1 → prefix_sign p ≡ 48 + v → ⊥
prefix_no_digit p v le e = sign_no_digit (prefix_sign p) (prefix_among p (prefix_sign p) refl) (near v le e)
  where
    near : (v : ℕ) → v ≤ 1 → prefix_sign p ≡ 48 + v → (prefix_sign p ≡ 48) ⊎ (prefix_sign p ≡ 49)
    near v le e = grind arith

pub digit_no_letter : (v : ℕ) → v ≤ 1 → Letter (48 + v) → ⊥
digit_no_letter v le l = omega (arith, l.0)

-- lists of letters

abbrev lower : List ℕ → Bool
lower [] = true
lower (b ∷ bs) = is_ascii_lowercase b && lower bs

abbrev pub Stop : List ℕ → Type 0
Stop [] = Unit {0}
Stop (b ∷ bs) = Letter b → ⊥

lower_letter : (b : ℕ) → is_ascii_lowercase b ≡ true → Letter b
lower_letter b e = grind (arith, nat_tests)

letter_lower : (b : ℕ) → Letter b → is_ascii_lowercase b ≡ true
letter_lower b l = grind (arith, nat_tests)

first_letter : (n u : List ℕ) → IsName n → Letter (get_or (n ++ u) 0 0)
first_letter [] u e = absurd (let h = e.some in omega (arith, h))
first_letter (b ∷ bs) u e = e.letters 0 (omega arith)

lower_from : (xs : List ℕ) → ((k : ℕ) → k < length xs → Letter (get_or xs k 0)) → lower xs ≡ true
lower_from [] h = refl
lower_from (b ∷ bs) h = and_from (is_ascii_lowercase b) (lower bs) (letter_lower b (h 0 (omega arith))) (lower_from bs (λ k lt. h (suc k) (suc-le-suc lt)))

name_lower : (n : List ℕ) → IsName n → lower n ≡ true
name_lower n e = lower_from n e.letters

-- two runs of letters, after each of which no letter stands, are one
same_run : (n m u x : List ℕ) → lower n ≡ true → lower m ≡ true → Stop u → Stop x → n ++ u ≡ m ++ x → (n ≡ m) × (u ≡ x)
same_run [] [] u x a b su sx e = (refl, e)
same_run [] (c ∷ cs) u x a b su sx e = absurd (subst Stop e su (lower_letter c (and_parts (is_ascii_lowercase c) (lower cs) b).0))
same_run (c ∷ cs) [] u x a b su sx e = absurd (subst Stop (sym e) sx (lower_letter c (and_parts (is_ascii_lowercase c) (lower cs) a).0))
same_run (c ∷ cs) (d ∷ ds) u x a b su sx e =
    let h : c ≡ d = cc in
    let t : cs ++ u ≡ ds ++ x = cc in
    let q = same_run cs ds u x (and_parts (is_ascii_lowercase c) (lower cs) a).1 (and_parts (is_ascii_lowercase d) (lower ds) b).1 su sx t in
    (let y = q.0 in cc, q.1)

-- the rule ends in a name
abbrev pub EndsName : Rule → Type 0
EndsName (truth v) = ⊥
EndsName (signal k) = Unit {0}
EndsName (under p r) = EndsName r
EndsName (pair l s r) = ⊥

head : {u x : List ℕ} → u ≡ x → get_or u 0 0 ≡ get_or x 0 0
head e = ap (λ (xs : List ℕ). get_or xs 0 0) e

tail : {u x : List ℕ} → u ≡ x → drop 1 u ≡ drop 1 x
tail e = ap (λ (xs : List ℕ). drop 1 xs) e

pair_text : (names : List (List ℕ)) (l : Rule) (s : Infix) (r : Rule) (u : List ℕ)
    → spelled names (pair l s r) ++ u ≡ 40 ∷ (spelled names l ++ (infix_sign s ∷ (spelled names r ++ (41 ∷ u))))
pair_text names l s r u = simp append_assoc

same_index : (names : List (List ℕ)) (j k : ℕ) → AllDifferent names → j < length names → k < length names → get_or names j [] ≡ get_or names k [] → j ≡ k
same_index names j k d hj hk e = go (order j k)
  where
    order : (a b : ℕ) → (a < b) ⊎ ((a ≡ b) ⊎ (b < a))
    order a b = grind arith

    go : (j < k) ⊎ ((j ≡ k) ⊎ (k < j)) → j ≡ k
    go (inl lt) = absurd (d j k lt hk e)
    go (inr (inl q)) = q
    go (inr (inr gt)) = absurd (d k j gt hj (sym e))

pub one_rule : (names : List (List ℕ)) → AllNames names → AllDifferent names → (n : ℕ) (r q : Rule) (u x : List ℕ) → Fits names n r → Fits names n q
    → (EndsName r → Stop u) → (EndsName q → Stop x) → spelled names r ++ u ≡ spelled names q ++ x → (r ≡ q) × (u ≡ x)
one_rule names all dif n (truth v) (truth w) u x f g su sx e =
    let h = head e in let i : v ≡ w = omega (arith, h) in (ap truth i, tail e)
one_rule names all dif n (truth v) (signal k) u x f g su sx e = absurd (digit_no_letter v f (subst Letter (sym (head e)) (first_letter (get_or names k []) x (all k g))))
one_rule names all dif n (truth v) (under p q) u x f g su sx e = absurd (prefix_no_digit p v f (sym (head e)))
one_rule names all dif n (truth v) (pair l s r) u x f g su sx e = absurd (let h = head e in omega (arith, h))
one_rule names all dif n (signal j) (truth w) u x f g su sx e = absurd (digit_no_letter w g (subst Letter (head e) (first_letter (get_or names j []) u (all j f))))
one_rule names all dif n (signal j) (signal k) u x f g su sx e =
    let q = same_run (get_or names j []) (get_or names k []) u x (name_lower (get_or names j []) (all j f)) (name_lower (get_or names k []) (all k g)) (su tt) (sx tt) e in
    (ap signal (same_index names j k dif f g q.0), q.1)
one_rule names all dif n (signal j) (under p q) u x f g su sx e = absurd (prefix_no_letter p (subst Letter (head e) (first_letter (get_or names j []) u (all j f))))
one_rule names all dif n (signal j) (pair l s r) u x f g su sx e = absurd (let h = subst Letter (head e) (first_letter (get_or names j []) u (all j f)) in omega (arith, h.0))
one_rule names all dif n (under p r) (truth w) u x f g su sx e = absurd (prefix_no_digit p w g (head e))
one_rule names all dif n (under p r) (signal k) u x f g su sx e = absurd (prefix_no_letter p (subst Letter (sym (head e)) (first_letter (get_or names k []) x (all k g))))
one_rule names all dif n (under p r) (under o q) u x f g su sx e =
    let i = one_rule names all dif (n + 1) r q u x f.1 g.1 su sx (tail e) in
    let s = same_prefix p o (head e) in
    (ap (λ (z : Prefix). under z r) s ∙ ap (λ (z : Rule). under o z) i.0, i.1)
one_rule names all dif n (under p r) (pair l s q) u x f g su sx e = absurd (prefix_no_bracket p (head e))
one_rule names all dif n (pair l s r) (truth w) u x f g su sx e = absurd (let h = head e in omega (arith, h))
one_rule names all dif n (pair l s r) (signal k) u x f g su sx e = absurd (let h = subst Letter (sym (head e)) (first_letter (get_or names k []) x (all k g)) in omega (arith, h.0))
one_rule names all dif n (pair l s r) (under p q) u x f g su sx e = absurd (prefix_no_bracket p (sym (head e)))
one_rule names all dif n (pair l s r) (pair a t b) u x f g su sx e =
    let w = tail (sym (pair_text names l s r u) ∙ e ∙ pair_text names a t b x) in
    let i = one_rule names all dif (n + 1) l a _ _ f.1 g.1 (λ _. infix_no_letter s) (λ _. infix_no_letter t) w in
    let k = one_rule names all dif (n + 1) r b (41 ∷ u) (41 ∷ x) f.2 g.2 (λ _ h. omega (arith, h.0)) (λ _ h. omega (arith, h.0)) (tail i.1) in
    let m = same_infix s t (head i.1) in
    (ap (λ (z : Rule). pair z s r) i.0 ∙ ap (λ (z : Infix). pair a z r) m ∙ ap (λ (z : Rule). pair a t z) k.0, tail k.1)

-- a rule that is read

split_last : (n : List ℕ) → 0 < length n → lower n ≡ true → (pre : List ℕ) × ((b : ℕ) × ((n ≡ pre ++ b ∷ []) × Letter b))
split_last [] h e = absurd (omega (arith, h))
split_last (b ∷ []) h e = ([], (b, (refl, lower_letter b (and_parts (is_ascii_lowercase b) (lower []) e).0)))
split_last (b ∷ c ∷ cs) h e =
    let q = split_last (c ∷ cs) (omega arith) (and_parts (is_ascii_lowercase b) (lower (c ∷ cs)) e).1 in
    (b ∷ q.0, (q.1.0, (ap (λ (z : List ℕ). b ∷ z) q.1.1.0, q.1.1.1)))

last_letter : (names : List (List ℕ)) → AllNames names → (n : ℕ) (r : Rule) → Fits names n r → EndsName r
    → (pre : List ℕ) × ((b : ℕ) × ((spelled names r ≡ pre ++ b ∷ []) × Letter b))
last_letter names all n (truth v) f h = elim h [ ]
last_letter names all n (signal k) f h =
    let e = all k f in
    split_last (get_or names k []) e.some (name_lower (get_or names k []) e)
last_letter names all n (under p r) f h =
    let q = last_letter names all (n + 1) r f.1 h in
    (prefix_sign p ∷ q.0, (q.1.0, (ap (λ (z : List ℕ). prefix_sign p ∷ z) q.1.1.0, q.1.1.1)))
last_letter names all n (pair l s r) f h = elim h [ ]

stop_at : (xs : List ℕ) → (Letter (get_or xs 0 0) → ⊥) → Stop xs
stop_at [] h = tt
stop_at (b ∷ bs) h = h

first_is : (text : List ℕ) (at : ℕ) → get_or (drop at text) 0 0 ≡ get_or text at 0
first_is text at = get_or-drop at text 0 0 ∙ (let z : at + 0 ≡ at = omega arith in ap (λ (k : ℕ). get_or text k 0) z)

pub ends_stop : (names : List (List ℕ)) → AllNames names → (text : List ℕ) (n : ℕ) (ls : List Line) (at : ℕ) (r : Rule) (end : ℕ)
    → Reads names text n ls at r end → EndsName r → Stop (drop end text)
ends_stop names all text n ls at r end R h =
    let q = last_letter names all n r R.fits h in
    let pre = q.0 in
    let b = q.1.0 in
    let u = drop end text in
    let e : drop at text ≡ pre ++ (b ∷ u) = R.spells ∙ ap (λ (z : List ℕ). z ++ u) q.1.1.0 ∙ append_assoc pre (b ∷ []) u in
    let l0 = length-drop at text in
    let l1 = length-drop end text in
    let l2 : length (drop at text) ≡ length pre + length (b ∷ u) = ap length e ∙ length-append pre (b ∷ u) in
    let w = R.within in
    let o = R.onward in
    let k : at + length pre ≡ end - 1 = omega (arith, l0, l1, l2, w, o) in
    let byte : get_or text (end - 1) 0 ≡ b =
    ap (λ (j : ℕ). get_or text j 0) (sym k) ∙ sym (get_or-drop at text (length pre) 0) ∙ ap (λ (z : List ℕ). get_or z (length pre) 0) e ∙ get_or_at pre b u 0 (length pre) refl in
    stop_at (drop end text) (λ m. R.whole (subst Letter (sym byte) q.1.1.1) (subst Letter (first_is text end) m))

-- a rule that the text spells from a place on, with `x` after it
pub record Cand (names : List (List ℕ)) (text : List ℕ) (n : ℕ) (ls : List Line) (at : ℕ) (r : Rule) (x : List ℕ) : Type 0 where
  pub goes : drop at text ≡ spelled names r ++ x
  pub fits : Fits names n r
  pub room : length (written ls r) ≤ 64
  pub stop : EndsName r → Stop x

match_reads : (names : List (List ℕ)) → AllNames names → AllDifferent names → (text : List ℕ) (n : ℕ) (ls : List Line) (at : ℕ) (l q : Rule) (mid : ℕ) (x : List ℕ)
    → Reads names text n ls at l mid → Cand names text n ls at q x → (l ≡ q) × (drop mid text ≡ x)
match_reads names all dif text n ls at l q mid x R C =
    one_rule names all dif n l q (drop mid text) x R.fits C.fits (ends_stop names all text n ls at l mid R) C.stop (sym R.spells ∙ C.goes)

grows : (r : Rule) (ls : List Line) → length ls < length (written ls r)
grows (truth v) ls = let l = length-append ls (line.Const (eqb v 1) ∷ []) in omega (arith, l)
grows (signal k) ls = let l = length-append ls (line.Signal k ∷ []) in omega (arith, l)
grows (under p r) ls =
    let l = length-append (written ls r) (prefix_lines p (last (written ls r)) (length (written ls r))) in let g = grows r ls in omega (arith, l, g)
grows (pair a s r) ls =
    let l = length-append (written (written ls a) r) (infix_lines s (last (written ls a)) (last (written (written ls a) r)) (length (written (written ls a) r))) in
    let g = grows a ls in let h = grows r (written ls a) in omega (arith, l, g, h)

cand_byte : (names : List (List ℕ)) (text : List ℕ) (n : ℕ) (ls : List Line) (at : ℕ) (r : Rule) (x : List ℕ)
    → Cand names text n ls at r x → get_or text at 0 ≡ get_or (spelled names r ++ x) 0 0
cand_byte names text n ls at r x C = sym (first_is text at) ∙ head C.goes

next_rest : (text : List ℕ) (at b : ℕ) (xs : List ℕ) → drop at text ≡ b ∷ xs → drop (at + 1) text ≡ xs
next_rest text at b xs e = sym (drop-drop 1 at text) ∙ tail e

invert_under : (names : List (List ℕ)) → AllNames names → (text : List ℕ) (n : ℕ) (ls : List Line) (at : ℕ) (r : Rule) (x : List ℕ) (p : Prefix)
    → get_or text at 0 ≡ prefix_sign p → Cand names text n ls at r x → (q : Rule) × ((r ≡ under p q) × (n < 32) × Cand names text (n + 1) ls (at + 1) q x)
invert_under names all text n ls at (truth v) x p b C =
    absurd (prefix_no_digit p v C.fits (sym b ∙ cand_byte names text n ls at (truth v) x C))
invert_under names all text n ls at (signal k) x p b C =
    absurd (prefix_no_letter p (subst Letter (sym (cand_byte names text n ls at (signal k) x C) ∙ b) (first_letter (get_or names k []) x (all k C.fits))))
invert_under names all text n ls at (under o q) x p b C =
    let s = same_prefix o p (sym (cand_byte names text n ls at (under o q) x C) ∙ b) in
    let l = length-append (written ls q) (prefix_lines o (last (written ls q)) (length (written ls q))) in
    let m = C.room in (
      q,
      (
        ap (λ (z : Prefix). under z q) s,
        C.fits.0,
        record {
          goes = next_rest text at (prefix_sign o) (spelled names q ++ x) C.goes;
          fits = C.fits.1;
          room = omega (arith, l, m);
          stop = C.stop;
        },
      ),
    )
invert_under names all text n ls at (pair l s q) x p b C =
    absurd (prefix_no_bracket p (sym b ∙ cand_byte names text n ls at (pair l s q) x C))

record Halves (names : List (List ℕ)) (text : List ℕ) (n : ℕ) (ls : List Line) (at : ℕ) (r : Rule) (x : List ℕ) : Type 0 where
  l : Rule
  s : Infix
  q : Rule
  is : r ≡ pair l s q
  level : n < 32
  left : Cand names text (n + 1) ls (at + 1) l (infix_sign s ∷ (spelled names q ++ (41 ∷ x)))
  right : (mid : ℕ) → drop mid text ≡ infix_sign s ∷ (spelled names q ++ (41 ∷ x)) → Cand names text (n + 1) (written ls l) (mid + 1) q (41 ∷ x)

invert_pair : (names : List (List ℕ)) → AllNames names → (text : List ℕ) (n : ℕ) (ls : List Line) (at : ℕ) (r : Rule) (x : List ℕ)
    → get_or text at 0 ≡ 40 → Cand names text n ls at r x → Halves names text n ls at r x
invert_pair names all text n ls at (truth v) x b C = absurd (let h = sym b ∙ cand_byte names text n ls at (truth v) x C in omega (arith, h))
invert_pair names all text n ls at (signal k) x b C =
    absurd (let h = subst Letter (sym (cand_byte names text n ls at (signal k) x C) ∙ b) (first_letter (get_or names k []) x (all k C.fits)) in omega (arith, h.0))
invert_pair names all text n ls at (under p q) x b C = absurd (prefix_no_bracket p (sym (cand_byte names text n ls at (under p q) x C) ∙ b))
invert_pair names all text n ls at (pair a t z) x b C =
    let l0 = length-append (written (written ls a) z) (infix_lines t (last (written ls a)) (last (written (written ls a) z)) (length (written (written ls a) z))) in
    let g = grows z (written ls a) in
    let m = C.room in
    record {
      l = a;
      s = t;
      q = z;
      is = refl;
      level = C.fits.0;
      left = record {
        goes = next_rest text at 40 _ (C.goes ∙ pair_text names a t z x);
        fits = C.fits.1;
        room = omega (arith, l0, g, m);
        stop = λ _. infix_no_letter t;
      };
      right = λ mid e. record {
        goes = next_rest text mid (infix_sign t) _ e;
        fits = C.fits.2;
        room = omega (arith, l0, m);
        stop = λ _ h. omega (arith, h.0);
      };
    }

some_bytes : (names : List (List ℕ)) → AllNames names → (n : ℕ) (r : Rule) (x : List ℕ) → Fits names n r → spelled names r ++ x ≡ [] → ⊥
some_bytes names all n (truth v) x f e = cc
some_bytes names all n (signal k) x f e = let h = subst Letter (head e) (first_letter (get_or names k []) x (all k f)) in omega (arith, h.0)
some_bytes names all n (under p r) x f e = cc
some_bytes names all n (pair l s r) x f e = cc

no_end : (names : List (List ℕ)) → AllNames names → (text : List ℕ) (n : ℕ) (ls : List Line) (at : ℕ) (r : Rule) (x : List ℕ)
    → at ≡ length text → Cand names text n ls at r x → ⊥
no_end names all text n ls at r x e C = some_bytes names all n r x C.fits (sym C.goes ∙ drop_all at text (omega (arith, e)))

no_wrong : (names : List (List ℕ)) → AllNames names → (text : List ℕ) (n : ℕ) (ls : List Line) (at : ℕ) (r : Rule) (x : List ℕ)
    → NoUnit text at → Cand names text n ls at r x → ⊥
no_wrong names all text n ls at (truth v) x w C =
    let b : get_or text at 0 ≡ 48 + v = cand_byte names text n ls at (truth v) x C in
    let f : v ≤ 1 = C.fits in
    let a = w.digit0 in let d = w.digit1 in
    two (which v f)
  where
    which : (v : ℕ) → v ≤ 1 → (v ≡ 0) ⊎ (v ≡ 1)
    which v f = grind arith

    two : (v ≡ 0) ⊎ (v ≡ 1) → ⊥
    two (inl e) = w.digit0 (cand_byte names text n ls at (truth v) x C ∙ ap (λ (k : ℕ). 48 + k) e)
    two (inr e) = w.digit1 (cand_byte names text n ls at (truth v) x C ∙ ap (λ (k : ℕ). 48 + k) e)
no_wrong names all text n ls at (signal k) x w C =
    w.letter (subst Letter (sym (cand_byte names text n ls at (signal k) x C)) (first_letter (get_or names k []) x (all k C.fits)))
no_wrong names all text n ls at (under p r) x w C = w.prefix p (cand_byte names text n ls at (under p r) x C)
no_wrong names all text n ls at (pair l s r) x w C = w.bracket (cand_byte names text n ls at (pair l s r) x C)

-- the letters that stand at a place are the name of the rule there
no_unknown : (names : List (List ℕ)) → AllNames names → (text : List ℕ) (n : ℕ) (ls : List Line) (at end : ℕ) (r : Rule) (x : List ℕ)
    → at < end → Letters text at end → ((k : ℕ) → k < length names → get_or names k [] ≡ take (end - at) (drop at text) → ⊥)
    → Cand names text n ls at r x → ⊥
no_unknown names all text n ls at end (truth v) x lt s none C =
    digit_no_letter v C.fits (subst Letter (cand_byte names text n ls at (truth v) x C) (s.all at (omega arith) lt))
no_unknown names all text n ls at end (under p r) x lt s none C =
    prefix_no_letter p (subst Letter (cand_byte names text n ls at (under p r) x C) (s.all at (omega arith) lt))
no_unknown names all text n ls at end (pair l t r) x lt s none C =
    let h = subst Letter (cand_byte names text n ls at (pair l t r) x C) (s.all at (omega arith) lt) in omega (arith, h.0)
no_unknown names all text n ls at end (signal k) x lt s none C =
    let m = end - at in
    let part = take m (drop at text) in
    let w = s.within in
    let len = length-drop at text in
    let pl : length part ≡ m = length-take-le m (drop at text) (omega (arith, len, w)) in
    let sum : at + m ≡ end = omega arith in
    let cutting : drop at text ≡ part ++ drop end text =
    sym (take-append-drop m (drop at text)) ∙ ap (λ (z : List ℕ). part ++ z) (drop-drop m at text ∙ ap (λ (j : ℕ). drop j text) sum) in
    let low : lower part ≡ true = lower_from part (λ j lj.
    let below : j < m = omega (arith, pl, lj) in
    let a : at ≤ at + j = omega arith in
    let b : at + j < end = omega arith in
    subst Letter (sym (get_or-take m (drop at text) j 0 below ∙ get_or-drop at text j 0)) (s.all (at + j) a b)) in
    let st : Stop (drop end text) = stop_at (drop end text) (λ h. past text at end s (subst Letter (first_is text end) h)) in
    none k C.fits (same_run (get_or names k []) part x (drop end text) (name_lower (get_or names k []) (all k C.fits)) low (C.stop tt) st (sym C.goes ∙ cutting)).0

-- A text that spells a rule that fits has no fault.
pub no_fault : (names : List (List ℕ)) (text : List ℕ) → AllNames names → AllDifferent names → {n : ℕ} {ls : List Line} {at : ℕ} {f : Fault}
    → Faulty names text n ls at f → (r : Rule) (x : List ℕ) → Cand names text n ls at r x → ⊥
no_fault names text all dif (ends {n = n} {ls = ls} {at = at} e) r x C = no_end names all text n ls at r x e C
no_fault names text all dif (wrong {n = n} {ls = ls} {at = at} w) r x C = no_wrong names all text n ls at r x w C
no_fault names text all dif (unknown {n = n} {ls = ls} {at = at} {end = end} lt s no_name) r x C = no_unknown names all text n ls at end r x lt s no_name C
no_fault names text all dif (deep_prefix {n = n} {ls = ls} {at = at} p st e) r x C =
    let q = invert_under names all text n ls at r x p st.1 C in let h = q.1.1 in omega (arith, h, e)
no_fault names text all dif (deep_pair {n = n} {ls = ls} {at = at} st e) r x C =
    let q = invert_pair names all text n ls at r x st.1 C in let h = q.level in omega (arith, h, e)
no_fault names text all dif (in_under {n = n} {ls = ls} {at = at} p st lt F) r x C =
    let q = invert_under names all text n ls at r x p st.1 C in no_fault names text all dif F q.0 x q.1.2
no_fault names text all dif (in_left {n = n} {ls = ls} {at = at} st lt F) r x C =
    let q = invert_pair names all text n ls at r x st.1 C in no_fault names text all dif F q.l _ q.left
no_fault names text all dif (in_right {n = n} {ls = ls} {at = at} {mid = mid} l s st lt R k F) r x C =
    let q = invert_pair names all text n ls at r x st.1 C in
    let m = match_reads names all dif text (n + 1) ls (at + 1) l q.l mid _ R q.left in
    let P : Rule → Type 0 = λ z. Cand names text (n + 1) (written ls z) (mid + 1) q.q (41 ∷ x) in
    no_fault names text all dif F q.q (41 ∷ x) (subst P (sym m.0) (q.right mid m.1))
no_fault names text all dif (ends_left {n = n} {ls = ls} {at = at} {mid = mid} l st lt R e) r x C =
    let q = invert_pair names all text n ls at r x st.1 C in
    let m = match_reads names all dif text (n + 1) ls (at + 1) l q.l mid _ R q.left in
    let g : infix_sign q.s ∷ (spelled names q.q ++ (41 ∷ x)) ≡ [] = sym m.1 ∙ drop_all mid text (omega (arith, e)) in
    cc
no_fault names text all dif (no_infix {n = n} {ls = ls} {at = at} {mid = mid} l st lt R w none) r x C =
    let q = invert_pair names all text n ls at r x st.1 C in
    let m = match_reads names all dif text (n + 1) ls (at + 1) l q.l mid _ R q.left in
    none q.s (sym (head m.1) ∙ first_is text mid)
no_fault names text all dif (ends_right {n = n} {ls = ls} {at = at} {mid = mid} {end = end} l s o st lt R k S e) r x C =
    let q = invert_pair names all text n ls at r x st.1 C in
    let m = match_reads names all dif text (n + 1) ls (at + 1) l q.l mid _ R q.left in
    let P : Rule → Type 0 = λ z. Cand names text (n + 1) (written ls z) (mid + 1) q.q (41 ∷ x) in
    let i = match_reads names all dif text (n + 1) (written ls l) (mid + 1) o q.q end (41 ∷ x) S (subst P (sym m.0) (q.right mid m.1)) in
    let g : 41 ∷ x ≡ [] = sym i.1 ∙ drop_all end text (omega (arith, e)) in
    cc
no_fault names text all dif (no_close {n = n} {ls = ls} {at = at} {mid = mid} {end = end} l s o st lt R k S w none) r x C =
    let q = invert_pair names all text n ls at r x st.1 C in
    let m = match_reads names all dif text (n + 1) ls (at + 1) l q.l mid _ R q.left in
    let P : Rule → Type 0 = λ z. Cand names text (n + 1) (written ls z) (mid + 1) q.q (41 ∷ x) in
    let i = match_reads names all dif text (n + 1) (written ls l) (mid + 1) o q.q end (41 ∷ x) S (subst P (sym m.0) (q.right mid m.1)) in
    none (sym (first_is text end) ∙ head i.1)
no_fault names text all dif (full_digit {n = n} {ls = ls} {at = at} v le st full) r x C = let g = grows r ls in let m = C.room in omega (arith, g, m, full)
no_fault names text all dif (full_name {n = n} {ls = ls} {at = at} lt s known e full) r x C = let g = grows r ls in let m = C.room in omega (arith, g, m, full)
no_fault names text all dif (full_under {n = n} {ls = ls} {at = at} {end = end} p o st lt R big) r x C =
    let q = invert_under names all text n ls at r x p st.1 C in
    let i = match_reads names all dif text (n + 1) ls (at + 1) o q.0 end x R q.1.2 in
    let m : length (written ls (under p o)) ≤ 64 = subst (λ (z : Rule). length (written ls z) ≤ 64) (q.1.0 ∙ ap (λ (z : Rule). under p z) (sym i.0)) C.room in
    omega (arith, m, big)
no_fault names text all dif (full_pair {n = n} {ls = ls} {at = at} {mid = mid} {end = end} l s o st lt R k S close big) r x C =
    let q = invert_pair names all text n ls at r x st.1 C in
    let m = match_reads names all dif text (n + 1) ls (at + 1) l q.l mid _ R q.left in
    let P : Rule → Type 0 = λ z. Cand names text (n + 1) (written ls z) (mid + 1) q.q (41 ∷ x) in
    let i = match_reads names all dif text (n + 1) (written ls l) (mid + 1) o q.q end (41 ∷ x) S (subst P (sym m.0) (q.right mid m.1)) in
    let t = same_infix s q.s (sym k.1 ∙ sym (first_is text mid) ∙ head m.1) in
    let j : length (written ls (pair l s o)) ≤ 64 = subst (λ (z : Rule). length (written ls z) ≤ 64)
    (q.is ∙ ap (λ (z : Rule). pair z q.s q.q) (sym m.0) ∙ ap (λ (z : Infix). pair l z q.q) (sym t) ∙ ap (λ (z : Rule). pair l s z) (sym i.0)) C.room in
    omega (arith, j, big)

-- Every text that spells a rule that fits is accepted: it has no first fault.
pub apart : (names : List (List ℕ)) (text : List ℕ) (ls : List Line) → AllNames names → AllDifferent names
    → (r : Rule) (f : Fault) → Fitting names text ls r → FirstFault names text ls f → ⊥
apart names text ls all dif r f A w = go w
  where
    C : Cand names text 0 ls 0 r []
    C = record { goes = A.spells ∙ sym (append-nil (spelled names r)); fits = A.fits; room = A.room; stop = λ _. tt }

    go : {g : Fault} → FirstFault names text ls g → ⊥
    go (too_long h) = let short = A.short in omega (arith, h, short)
    go (inside h F) = no_fault names text all dif F r [] C
    go (goes_on {p = p} o h R lt) =
        let m = match_reads names all dif text 0 ls 0 o r p [] R C in
        let l : length (drop p text) ≡ 0 = ap length m.1 in
        let d = length-drop p text in
        omega (arith, l, d, lt)

pub one_fitting : (names : List (List ℕ)) (text : List ℕ) (ls : List Line) → AllNames names → AllDifferent names
    → (q r : Rule) → Fitting names text ls q → Fitting names text ls r → q ≡ r
one_fitting names text ls all dif q r A B =
    (one_rule names all dif 0 q r [] [] A.fits B.fits (λ _. tt) (λ _. tt) (ap (λ (z : List ℕ). z ++ []) (sym A.spells ∙ B.spells))).0

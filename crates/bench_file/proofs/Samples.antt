-- The samples of a file, and its end.
use Rattle.std.proofs.Common.{◌≡◌, ℕ, ◌+◌, ◌-◌, ◌<◌, ◌≤◌, Bool, true, false, cond, eqb, ◌==◌, ◌⊎◌, List, [], ◌∷◌, length, get_or, drop, IsErrAnd, Err, Result, sym, refl, ap, ◌∙◌, subst, inl, inr, arith}
use Rattle.std.proofs.lemmas.List.{drop-drop, length-drop, length-take, get_or-drop, take_all}
use Rattle.std.proofs.lemmas.Bool.Decides.{nat_tests}
use Rattle.std.proofs.lemmas.Result.{err_from_is_err_and}
use Rattle.lexer.specs.Names.{Good, spaced, names_of, known}
use Rattle.std.specs.List.{onto_first}
use Rattle.lexer.specs.Parts.{parts}
use Rattle.bench_file.specs.declared.file.BenchFile.{BenchFile}
use Rattle.bench_file.specs.declared.file.Top.{Top}
use Rattle.bench_file.specs.declared.refusal.FileRefusal.{FileRefusal}
use Rattle.bench_file.specs.declared.refusal.FileRefusal.TheVariants.{Form, Naming}
use Rattle.bench_file.specs.Files.{lines, line, IsRight, FirstWrong, Outcome, Refuses, needed, samples, signals}
use Rattle.bench_file.specs.Lines.{IsSample, stem_of, mask_of, lost_of}
use Rattle.bench_file.specs.Steps.{SampleAt, SampleWrong, SamplesRight, TopOf, TopRight}
use Rattle.bench_file.proofs.Marks.{parts_some}

-- a good names line has as many names as parts
pub count_is : (l : List ℕ) → Good l → length (names_of l) ≡ length (spaced l)
count_is l g = ap length (take_all 32 (spaced l) g.few)

pub count_small : (l : List ℕ) → length (names_of l) ≤ 32
count_small l = omega (arith, length-take 32 (spaced l))

pub count_some : (l : List ℕ) → 0 < length (names_of l)
count_some l = omega (arith, length-take 32 (spaced l), parts_some 32 l)

-- whether there are bytes, as `is_empty` tells it
pub some_bytes : (bytes : List ℕ) (b : Bool) → b ≡ false → b ≡ (length bytes == 0) → 0 < length bytes
some_bytes bytes b f e = grind (arith, nat_tests)

pub no_bytes_are : (bytes : List ℕ) (b : Bool) → b ≡ true → b ≡ (length bytes == 0) → length bytes ≡ 0
no_bytes_are bytes b f e = grind (arith, nat_tests)

-- bytes whose one line is empty are none
some_line : (s b : ℕ) (bs : List ℕ) (t : Bool) → length (cond t ([] ∷ parts s bs) (onto_first b (parts s bs))) ≡ 1
    → get_or (cond t ([] ∷ parts s bs) (onto_first b (parts s bs))) 0 [] ≡ [] → ⊥
some_line s b bs true l e = omega (arith, l, parts_some s bs)
some_line s b bs false l e = first (parts s bs) e
  where
    first : (ps : List (List ℕ)) → get_or (onto_first b ps) 0 [] ≡ [] → ⊥
    first [] e = let z : ◌≡◌ {A = ℕ} 0 1 = cc in omega arith
    first (p ∷ ps) e = let z : ◌≡◌ {A = ℕ} 0 1 = cc in omega arith

pub no_bytes : (s : ℕ) (xs : List ℕ) → length (parts s xs) ≡ 1 → get_or (parts s xs) 0 [] ≡ [] → length xs ≡ 0
no_bytes s [] l e = refl
no_bytes s (b ∷ bs) l e = absurd (some_line s b bs (eqb b s) l e)

nil : (xs : List ℕ) → length xs ≡ 0 → xs ≡ []
nil [] l = refl
nil (x ∷ xs) l = absurd (omega (arith, l))

-- the lines from line 3 on
module _ (ls ms : List (List ℕ)) (c n : ℕ) (rest_is : drop 3 ls ≡ ms) (n_is : n ≡ samples ls) (c_is : c ≡ signals ls) where
  line_is : (t : ℕ) → line ls (3 + t) ≡ line ms t
  line_is t = sym (get_or-drop 3 ls t []) ∙ ap (λ (xs : List (List ℕ)). get_or xs t []) rest_is

  long : length ms ≡ length ls - 3
  long = ap length (sym rest_is) ∙ length-drop 3 ls

  sample_right : (t : ℕ) → t < n → SampleAt ms c t → IsRight ls (3 + t)
  sample_right t lt s =
      record {
        ended = λ h. let e = s.0 in omega (arith, e, long);
        heads = λ h. absurd (omega (arith, h));
        header = λ h. absurd (omega (arith, h));
        sample = λ h g. subst (λ (k : ℕ). IsSample k (line ls (3 + t))) c_is (subst (IsSample c) (sym (line_is t)) s.1);
        nothing = λ h. absurd (omega (arith, h, lt, n_is));
      }

  right_sample : (t : ℕ) → t < n → IsRight ls (3 + t) → SampleAt ms c t
  right_sample t lt r =
      let below : 3 + t < needed ls = omega (arith, lt, n_is) in
      let e = r.ended below in (
        omega (arith, e, long),
        subst (IsSample c) (line_is t) (subst (λ (k : ℕ). IsSample k (line ls (3 + t))) (sym c_is) (r.sample (omega arith) below)),
      )

  -- the lines above line 3 + t
  above : ((k : ℕ) → k ≤ 2 → IsRight ls k) → (t : ℕ) → t ≤ n → ((j : ℕ) → j < t → SampleAt ms c j) → (k : ℕ) → k < 3 + t → IsRight ls k
  above top t le all k lt = go (near k)
    where
      near : (k : ℕ) → (k ≤ 2) ⊎ (2 < k)
      near k = grind arith

      go : (k ≤ 2) ⊎ (2 < k) → IsRight ls k
      go (inl small) = top k small
      go (inr big) =
          let e : 3 + (k - 3) ≡ k = omega (arith, big) in
          subst (IsRight ls) e (sample_right (k - 3) (omega (arith, big, lt, le)) (all (k - 3) (omega (arith, big, lt))))

  pub wrong_sample : ((k : ℕ) → k ≤ 2 → IsRight ls k) → Good (line ls 2) → (t : ℕ) → SampleWrong ms c n t → FirstWrong ls (3 + t)
  wrong_sample top good t w =
      let lt = w.below in
      record {
        within = omega (arith, lt, n_is);
        above = above top t (omega (arith, lt)) w.all;
        wrong = λ r. w.wrong (right_sample t w.below r);
        named = λ h. good;
      }

  -- what is left after the samples
  left : (rest : List ℕ) → drop n ms ≡ lines rest → drop (3 + n) ls ≡ lines rest
  left rest d = sym (drop-drop n 3 ls) ∙ ap (λ (xs : List (List ℕ)). drop n xs) rest_is ∙ d

  last_line : (rest : List ℕ) → drop n ms ≡ lines rest → get_or (lines rest) 0 [] ≡ line ls (3 + n)
  last_line rest d =
      let z : 3 + n + 0 ≡ 3 + n = omega arith in
      ap (λ (xs : List (List ℕ)). get_or xs 0 []) (sym (left rest d)) ∙ get_or-drop (3 + n) ls 0 [] ∙ ap (line ls) z

  pub wrong_extra : ((k : ℕ) → k ≤ 2 → IsRight ls k) → Good (line ls 2) → (masks lost rest : List ℕ) → SamplesRight ms c n masks lost rest → 0 < length rest
      → FirstWrong ls (3 + n)
  wrong_extra top good masks lost rest s some =
      record {
        within = omega (arith, n_is);
        above = above top n (omega arith) s.all;
        wrong = λ r.
            let e = r.nothing (ap (λ (k : ℕ). 3 + k) n_is) in
            let l = ap length (left rest s.after) in
            let z = no_bytes 10 rest (omega (arith, l, length-drop (3 + n) ls, e.0)) (last_line rest s.after ∙ e.1) in
            omega (arith, z, some);
        named = λ h. good;
      }

  end_right : (rest : List ℕ) → drop n ms ≡ lines rest → length rest ≡ 0 → IsRight ls (3 + n)
  end_right rest d none =
      let e : lines rest ≡ [] ∷ [] = ap lines (nil rest none) in
      let l : length (drop (3 + n) ls) ≡ 1 = ap length (left rest d ∙ e) in
      record {
        ended = λ h. absurd (omega (arith, h, n_is));
        heads = λ h. absurd (omega (arith, h));
        header = λ h. absurd (omega (arith, h));
        sample = λ h g. absurd (omega (arith, g, n_is));
        nothing = λ h. (omega (arith, l, length-drop (3 + n) ls), sym (last_line rest d) ∙ ap (λ (xs : List (List ℕ)). get_or xs 0 []) e);
      }

  pub all_right : ((k : ℕ) → k ≤ 2 → IsRight ls k) → (masks lost rest : List ℕ) → SamplesRight ms c n masks lost rest → length rest ≡ 0
      → (k : ℕ) → k ≤ needed ls → IsRight ls k
  all_right top masks lost rest s none k le = go (near k)
    where
      near : (k : ℕ) → (k < 3 + n) ⊎ (3 + n ≤ k)
      near k = grind arith

      go : (k < 3 + n) ⊎ (3 + n ≤ k) → IsRight ls k
      go (inl lt) = above top n (omega arith) s.all k lt
      go (inr ge) = let e : 3 + n ≡ k = omega (arith, ge, le, n_is) in subst (IsRight ls) e (end_right rest s.after none)

  pub masks_say : (masks lost rest : List ℕ) → SamplesRight ms c n masks lost rest → (t : ℕ) → t < samples ls → get_or masks t 0 ≡ mask_of (line ls (3 + t))
  masks_say masks lost rest s t lt = s.masks_are t (omega (arith, lt, n_is)) ∙ ap mask_of (sym (line_is t))

  pub lost_say : (masks lost rest : List ℕ) → SamplesRight ms c n masks lost rest → (t : ℕ) → t < samples ls → get_or lost t 0 ≡ lost_of (line ls (3 + t))
  lost_say masks lost rest s t lt = s.lost_are t (omega (arith, lt, n_is)) ∙ ap lost_of (sym (line_is t))

-- what lines 0 to 2 ask of the samples
pub asked : (ls : List (List ℕ)) (t : Top) → TopRight ls t → t.header.stem + t.header.cycle ≡ samples ls
asked ls t h = ap (λ (k : ℕ). k + t.header.cycle) h.stem ∙ ap (λ (k : ℕ). stem_of (line ls 1) + k) h.cycle

pub named : (ls : List (List ℕ)) (t : Top) (c : ℕ) → TopRight ls t → c ≡ length (known t.names) → c ≡ signals ls
named ls t c h e = e ∙ ap (λ (l : List ℕ). length (names_of l)) h.names ∙ count_is (line ls 2) h.good

-- exits of the whole

pub refused_top : (bytes : List ℕ) (r : Result BenchFile FileRefusal) (e : FileRefusal) → length bytes ≤ 16384 → IsErrAnd r (λ y. y ≡ e) → TopOf (lines bytes) (Err e) → Outcome bytes r
refused_top bytes r e short by w =
    let p = err_from_is_err_and r by in
    subst (Outcome bytes) (sym (p.1 ∙ ap (λ (y : FileRefusal). Err y) p.2)) (go e w)
  where
    go : (e : FileRefusal) → TopOf (lines bytes) (Err e) → Refuses bytes e
    go (Form k) w = inr (short, w.1)
    go (Naming e) w = (short, w.0, w.1)

pub refused_samples : (bytes : List ℕ) (r : Result BenchFile FileRefusal) (e : FileRefusal) (k : ℕ) → length bytes ≤ 16384 → IsErrAnd r (λ y. y ≡ e) → e ≡ Form k
    → FirstWrong (lines bytes) k → Outcome bytes r
refused_samples bytes r e k short by is w =
    let p = err_from_is_err_and r by in
    subst (Outcome bytes) (sym (p.1 ∙ ap (λ (y : FileRefusal). Err y) (p.2 ∙ is))) (inr (short, w))

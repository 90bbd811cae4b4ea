-- Going down a file: the lines that are right so far, and the first that is wrong.
use Rattle.std.proofs.Common.{◌≡◌, ℕ, zero, suc, ◌+◌, ◌<◌, ◌≤◌, ◌≢◌, List, [], ◌∷◌, length, get_or, drop, set, IsErrAnd, Err, Result, sym, refl, ap, ◌∙◌, subst, arith, get_or-set_other, get_or-set_same, Bor, below_more}
use Rattle.std.proofs.lemmas.List.{length-drop}
use Rattle.std.proofs.lemmas.Result.{err_from_is_err_and}
use Rattle.lexer.specs.declared.names.NamesRefusal.{NamesRefusal}
use Rattle.lexer.specs.Names.{Good}
use Rattle.lexer.proofs.Pieces.{drop_first, drop_next}
use Rattle.bench_file.specs.declared.file.Top.{Top}
use Rattle.bench_file.specs.declared.refusal.FileRefusal.{FileRefusal}
use Rattle.bench_file.specs.declared.refusal.FileRefusal.TheVariants.{Form, Naming}
use Rattle.bench_file.specs.Files.{lines, line, IsRight, FirstWrong}
use Rattle.bench_file.specs.Lines.{title, IsHeader, IsSample}
use Rattle.bench_file.specs.Steps.{TopOf, SampleAt, SampleWrong, SamplesOf}
use Rattle.bench_file.proofs.Marks.{parts_some}

-- lines 0 to 2, where they stand at the front

pub right_title : (ls rest : List (List ℕ)) (a : List ℕ) → ls ≡ a ∷ rest → 0 < length rest → a ≡ title → IsRight ls 0
right_title ls rest a e some t =
    let l = ap length e in
    record {
      ended = λ h. omega (arith, l, some);
      heads = λ h. ap (λ (xs : List (List ℕ)). get_or xs 0 []) e ∙ t;
      header = λ h. absurd (omega (arith, h));
      sample = λ h g. absurd (omega (arith, h));
      nothing = λ h. absurd (omega (arith, h));
    }

pub right_header : (ls rest : List (List ℕ)) (a b : List ℕ) → ls ≡ a ∷ b ∷ rest → 0 < length rest → IsHeader b → IsRight ls 1
right_header ls rest a b e some t =
    let l = ap length e in
    record {
      ended = λ h. omega (arith, l, some);
      heads = λ h. absurd (omega (arith, h));
      header = λ h. subst IsHeader (sym (ap (λ (xs : List (List ℕ)). get_or xs 1 []) e)) t;
      sample = λ h g. absurd (omega (arith, h));
      nothing = λ h. absurd (omega (arith, h));
    }

pub right_names : (ls rest : List (List ℕ)) (a b d : List ℕ) → ls ≡ a ∷ b ∷ d ∷ rest → 0 < length rest → IsRight ls 2
right_names ls rest a b d e some =
    let l = ap length e in
    record {
      ended = λ h. omega (arith, l, some);
      heads = λ h. absurd (omega (arith, h));
      header = λ h. absurd (omega (arith, h));
      sample = λ h g. absurd (omega (arith, h));
      nothing = λ h. absurd (omega (arith, h));
    }

-- the lines above a number

pub above_0 : (ls : List (List ℕ)) (j : ℕ) → j < 0 → IsRight ls j
above_0 ls j lt = absurd (omega (arith, lt))

pub above_1 : (ls : List (List ℕ)) → IsRight ls 0 → (j : ℕ) → j < 1 → IsRight ls j
above_1 ls a zero lt = a
above_1 ls a (suc j) lt = absurd (omega (arith, lt))

pub above_2 : (ls : List (List ℕ)) → IsRight ls 0 → IsRight ls 1 → (j : ℕ) → j < 2 → IsRight ls j
above_2 ls a b zero lt = a
above_2 ls a b (suc zero) lt = b
above_2 ls a b (suc (suc j)) lt = absurd (omega (arith, lt))

pub upto_2 : (ls : List (List ℕ)) → IsRight ls 0 → IsRight ls 1 → IsRight ls 2 → (j : ℕ) → j ≤ 2 → IsRight ls j
upto_2 ls a b d zero le = a
upto_2 ls a b d (suc zero) le = b
upto_2 ls a b d (suc (suc zero)) le = d
upto_2 ls a b d (suc (suc (suc j))) le = absurd (omega (arith, le))

-- the first wrong line among these

pub wrong_ended : (ls : List (List ℕ)) (k : ℕ) → k ≤ 2 → length ls ≡ k + 1 → ((j : ℕ) → j < k → IsRight ls j) → FirstWrong ls k
wrong_ended ls k le l above =
    record {
      within = omega arith;
      above = above;
      wrong = λ r. let h = r.ended (omega arith) in omega (arith, h, l);
      named = λ h. absurd (omega (arith, h, le));
    }

pub wrong_title : (ls rest : List (List ℕ)) (a : List ℕ) → ls ≡ a ∷ rest → (a ≡ title → ⊥) → FirstWrong ls 0
wrong_title ls rest a e no_title =
    record {
      within = omega arith;
      above = above_0 ls;
      wrong = λ r. no_title (sym (ap (λ (xs : List (List ℕ)). get_or xs 0 []) e) ∙ r.heads refl);
      named = λ h. absurd (omega (arith, h));
    }

pub wrong_header : (ls rest : List (List ℕ)) (a b : List ℕ) → ls ≡ a ∷ b ∷ rest → IsRight ls 0 → (IsHeader b → ⊥) → FirstWrong ls 1
wrong_header ls rest a b e first no_Header =
    record {
      within = omega arith;
      above = above_1 ls first;
      wrong = λ r. no_Header (subst IsHeader (ap (λ (xs : List (List ℕ)). get_or xs 1 []) e) (r.header refl));
      named = λ h. absurd (omega (arith, h));
    }

-- exits of the reader of these lines

pub top_form : (ls : List (List ℕ)) (r : Result Top FileRefusal) (e : FileRefusal) (k : ℕ) → IsErrAnd r (λ y. y ≡ e) → e ≡ Form k → k ≤ 2 → FirstWrong ls k → TopOf ls r
top_form ls r e k by is le w =
    let p = err_from_is_err_and r by in
    subst (TopOf ls) (sym (p.1 ∙ ap (λ (y : FileRefusal). Err y) (p.2 ∙ is))) (le, w)

pub top_naming : (ls : List (List ℕ)) (r : Result Top FileRefusal) (e : NamesRefusal) → IsErrAnd r (λ y. y ≡ Naming e)
    → ((k : ℕ) → k ≤ 2 → IsRight ls k) → (Good (line ls 2) → ⊥) → TopOf ls r
top_naming ls r e by right bad =
    let p = err_from_is_err_and r by in
    subst (TopOf ls) (sym (p.1 ∙ ap (λ (y : FileRefusal). Err y) p.2)) (right, bad)

-- the lines of a file, cut one by one
pub two_lines : (ls : List (List ℕ)) (a b r : List ℕ) (rest : List (List ℕ)) → ls ≡ a ∷ lines r → lines r ≡ b ∷ rest → ls ≡ a ∷ b ∷ rest
two_lines ls a b r rest e f = e ∙ ap (λ (xs : List (List ℕ)). a ∷ xs) f

pub one_left : (ls : List (List ℕ)) (a r : List ℕ) → ls ≡ a ∷ lines r → length (lines r) ≡ 1 → length ls ≡ 2
one_left ls a r e l = let m = ap length e in omega (arith, m, l)

pub three_lines : (ls : List (List ℕ)) (a b d r : List ℕ) (rest : List (List ℕ)) → ls ≡ a ∷ b ∷ lines r → lines r ≡ d ∷ rest → ls ≡ a ∷ b ∷ d ∷ rest
three_lines ls a b d r rest e f = e ∙ ap (λ (xs : List (List ℕ)). a ∷ b ∷ xs) f

pub two_left : (ls : List (List ℕ)) (a b r : List ℕ) → ls ≡ a ∷ b ∷ lines r → length (lines r) ≡ 1 → length ls ≡ 3
two_left ls a b r e l = let m = ap length e in omega (arith, m, l)

-- the samples

pub sample_there : (ls : List (List ℕ)) (c t : ℕ) (a r rest : List ℕ) → drop t ls ≡ lines rest → lines rest ≡ a ∷ lines r → IsSample c a
    → SampleAt ls c t × (line ls t ≡ a) × (drop (t + 1) ls ≡ lines r)
sample_there ls c t a r rest d e s =
    let n = drop_next ls t a (lines r) (d ∙ e) in
    let f = drop_first ls [] t a (lines r) (d ∙ e) in
    let l = ap length n in
    ((omega (arith, l, length-drop (t + 1) ls, parts_some 10 r), subst (IsSample c) f.1 s), sym f.1, n)

pub sample_missing : (ls : List (List ℕ)) (c n t : ℕ) (rest : List ℕ) → drop t ls ≡ lines rest → length (lines rest) ≡ 1 → t < n
    → ((j : ℕ) → j < t → SampleAt ls c j) → SampleWrong ls c n t
sample_missing ls c n t rest d l lt all =
    let m = ap length d in
    record { below = lt; all = all; wrong = λ s. let h = s.0 in omega (arith, h, m, l, length-drop t ls) }

pub sample_bad : (ls : List (List ℕ)) (c n t : ℕ) (a r rest : List ℕ) → drop t ls ≡ lines rest → lines rest ≡ a ∷ lines r → (IsSample c a → ⊥) → t < n
    → ((j : ℕ) → j < t → SampleAt ls c j) → SampleWrong ls c n t
sample_bad ls c n t a r rest d e bad lt all =
    let f = drop_first ls [] t a (lines r) (d ∙ e) in
    record { below = lt; all = all; wrong = λ s. bad (subst (IsSample c) (sym f.1) s.1) }

-- one more number is set
pub set_more : (xs : List ℕ) (f : ℕ → ℕ) (t v : ℕ) → t < length xs → ((j : ℕ) → j < t → get_or xs j 0 ≡ f j) → v ≡ f t → (j : ℕ) → j < t + 1 → get_or (set xs t v) j 0 ≡ f j
set_more xs f t v lt sofar e =
    below_more _ _ (λ j below. let ne : j ≢ t = omega arith in get_or-set_other xs t j v 0 ne ∙ sofar j below) (get_or-set_same xs t v 0 lt ∙ e)

pub samples_form : (ls : List (List ℕ)) (c n t : ℕ) (masks lost : List ℕ) (r : Result (Bor (List ℕ)) FileRefusal) (e : FileRefusal) → IsErrAnd r (λ y. y ≡ e) → e ≡ Form (3 + t)
    → SampleWrong ls c n t → SamplesOf ls c n masks lost r
samples_form ls c n t masks lost r e by is w =
    let p = err_from_is_err_and r by in
    subst (SamplesOf ls c n masks lost) (sym (p.1 ∙ ap (λ (y : FileRefusal). Err y) (p.2 ∙ is))) (t, (refl, w))

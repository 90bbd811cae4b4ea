-- One call further.
use Rattle.std.proofs.Common.{◌≡◌, ℕ, ◌+◌, ◌<◌, ◌≤◌, List, [], ◌∷◌, ◌++◌, length, get_or, take, drop, set, fold, sym, refl, ap, ◌∙◌, subst, subst₂, ap₂, arith}
use native.Mathlib.Decide.{dec_le, dec_lt}
use Rattle.std.proofs.lemmas.List.{take_more, take_more_set, take_all, take-take, length-take-le, drop_all, drop-set-lt, drop-drop}
use Rattle.std.proofs.lemmas.List.Sums.{fold_more}
use Rattle.recording.specs.Kind.{Kind}
use Rattle.sheet.specs.Ledger.{Ledger}
use Rattle.run.specs.declared.answer.Answer.{Answer}
use Rattle.run.specs.declared.call.Call.{Call}
use Rattle.run.specs.Histories.{step, after}
use Rattle.run.specs.Law.{WhileSealed, Throughout}
use Rattle.run.specs.Story.{Heard, Lent, Tells, Story}

pub after_none : (l : Ledger) → after l [] ≡ l
unfolding after
after_none l = refl

after_more : (l : Ledger) (cs : List Call) (i : ℕ) (d : Call) → i < length cs → after l (take (i + 1) cs) ≡ step (after l (take i cs)) (get_or cs i d)
unfolding after
after_more l cs i d here = fold_more step l cs i d here

pub ledger_more : (l : Ledger) (cs : List Call) (i : ℕ) (c : Call) (m m' : Ledger) → i < length cs → c ≡ get_or cs i c → m ≡ after l (take i cs) → m' ≡ step m c
    → m' ≡ after l (take (i + 1) cs)
ledger_more l cs i c m m' here is e f = f ∙ ap₂ step e is ∙ sym (after_more l cs i c here)

-- the law after the first i calls, and after one more
abbrev pub LawTo : Kind → Kind → Ledger → List Call → ℕ → Type 0
LawTo K B l cs i = (m : ℕ) → m ≤ i → WhileSealed K B (after l (take m cs))

pub law_none : (K B : Kind) (l : Ledger) (cs : List Call) → WhileSealed K B l → LawTo K B l cs 0
law_none K B l cs law m h =
    let z : m ≡ 0 = omega arith in
    subst (WhileSealed K B) (sym (ap (λ k. after l (take k cs)) z ∙ after_none l)) law

pub law_more : (K B : Kind) (l : Ledger) (cs : List Call) (i : ℕ) (n : Ledger) → n ≡ after l (take (i + 1) cs) → WhileSealed K B n → LawTo K B l cs i → LawTo K B l cs (i + 1)
law_more K B l cs i n is here so_far m h =
    elim (dec_le m i) [
      | yes a ↦ so_far m a
      | no b ↦ let e : i + 1 ≡ m = omega arith in subst (WhileSealed K B) (is ∙ ap (λ k. after l (take k cs)) e) here
    ]

pub law_all : (K B : Kind) (l : Ledger) (cs cs' : List Call) (i : ℕ) → i ≤ length cs → cs' ≡ take i cs → LawTo K B l cs i → Throughout K B l cs'
law_all K B l cs cs' i some is law =
    subst (Throughout K B l) (sym is)
    (λ n h.
    let most : n ≤ i = omega (arith, length-take-le i cs some) in
    subst (λ (x : List Call). WhileSealed K B (after l x)) (sym (take-take n i cs most)) (law n most))

-- as many as there is room for
pub take_room : {A : Type 0} (xs : List A) (n i : ℕ) → i ≤ n → i ≤ length xs → (i < n → length xs ≤ i) → take n xs ≡ take i xs
take_room xs n i a b h =
    elim (dec_lt i n) [
      | yes l ↦ take_all n xs (omega (arith, h l)) ∙ sym (take_all i xs (h l))
      | no l ↦ let e : n ≡ i = omega arith in ap (λ k. take k xs) e
    ]

pub drop_room : {A : Type 0} (xs ys : List A) (n i : ℕ) → length ys ≡ length xs → i ≤ n → (i < n → length xs ≤ i) → drop i ys ≡ drop i xs → drop n ys ≡ drop n xs
drop_room xs ys n i same a h e =
    elim (dec_lt i n) [
      | yes l ↦ drop_all n ys (omega (arith, h l)) ∙ sym (drop_all n xs (omega (arith, h l)))
      | no l ↦ let q : n ≡ i = omega arith in rw q e
    ]

pub drop_more : {A : Type 0} (xs ys : List A) (i : ℕ) (a : A) → drop i ys ≡ drop i xs → drop (i + 1) (set ys i a) ≡ drop (i + 1) xs
drop_more xs ys i a e = drop-set-lt (i + 1) ys i a (omega arith) ∙ sym (drop-drop 1 i ys) ∙ ap (drop 1) e ∙ drop-drop 1 i xs

module _ {V W : Type 0} (h : Heard V) (b : Heard W) where
  story_snoc : (l : Ledger) (s t u : Lent V W) (cs : List Call) (zs : List (Answer V W)) (c : Call) (a : Answer V W)
      → Story h b l s cs zs t → Tells h b (fold step l cs).form (fold step l cs) c a t u → Story h b l s (cs ++ (c ∷ [])) (zs ++ (a ∷ [])) u
  story_snoc l s t u [] [] c a st told = (u, subst (λ (x : Lent V W). Tells h b l.form l c a x u) st told, refl)
  story_snoc l s t u [] (z ∷ zs) c a st told = absurd st
  story_snoc l s t u (d ∷ cs) [] c a st told = absurd st
  story_snoc l s t u (d ∷ cs) (z ∷ zs) c a st told = (st.0, st.1, story_snoc (step l d) st.0 t u cs zs c a st.2 told)

  pub story_more : (l : Ledger) (s t u : Lent V W) (cs : List Call) (zs : List (Answer V W)) (i : ℕ) (c : Call) (a : Answer V W) (m : Ledger)
      → i < length cs → c ≡ get_or cs i c → i < length zs → m ≡ after l (take i cs) → Story h b l s (take i cs) (take i zs) t
      → Tells h b m.form m c a t u → Story h b l s (take (i + 1) cs) (take (i + 1) (set zs i a)) u
  unfolding after
  story_more l s t u cs zs i c a m here is room e st told =
      subst₂ (λ x y. Story h b l s x y u) (sym (take_more cs i c here ∙ ap (λ (d : Call). take i cs ++ (d ∷ [])) (sym is))) (sym (take_more_set zs i a room))
      (story_snoc l s t u (take i cs) (take i zs) c a st (subst (λ (n : Ledger). Tells h b n.form n c a t u) e told))

  pub story_as : (l : Ledger) (s t : Lent V W) (cs cs' : List Call) (zs zs' : List (Answer V W)) → cs' ≡ cs → zs' ≡ zs → Story h b l s cs zs t
      → Story h b l s cs' zs' t
  story_as l s t cs cs' zs zs' e f st = subst₂ (λ x y. Story h b l s x y t) (sym e) (sym f) st

-- Lemmas on the lines that are written.
use Rattle.std.proofs.Common.{◌≡◌, ℕ, ◌≤◌, Bool, true, false, cond, eqb, Result, List, [], ◌∷◌, ◌++◌, length, sym, refl, ap, ◌∙◌, subst, arith}
use Rattle.std.proofs.lemmas.List.{append-nil, append_assoc, length-append}
use Rattle.sheet.proofs.Front.{length_lines}
use Rattle.sheet.specs.declared.draft.Draft.{Draft}
use Rattle.sheet.specs.declared.line.Line.{Line}
use Rattle.sheet.specs.declared.refusal.Refusal.{Refusal}
use Rattle.sheet.specs.Ledger.{Answer, Ledger, pushed}
use Rattle.sheet.specs.Sheets.{lines_of, drafted, written as answer}
use Rattle.sheet.specs.Table.{fits}
use Rattle.text.specs.declared.reader.Done.{Done}
use Rattle.text.specs.Guards.{Grown}
use Rattle.text.specs.Rules.{Rule, truth, signal, under, pair, written}
use Rattle.text.specs.Steps.{Whole}

pub few : (d : Draft) → length (lines_of d) ≤ 64
few d = omega (arith, length_lines d, d.room)

-- lines that were added

pub grown_none : (ls : List Line) → Grown ls ls
grown_none ls = ([], sym (append-nil ls))

pub grown_more : (a b c : List Line) → Grown a b → Grown b c → Grown a c
grown_more a b c (x, e) (y, f) = (x ++ y, f ∙ rw e (append_assoc a x y))

pub grown_length : (a b : List Line) → Grown a b → length a ≤ length b
grown_length a b (more, e) = omega (arith, ap length e, length-append a more)

-- a push adds lines and changes none

grown_cond : (ls : List Line) (b : Bool) (p q : Answer × Ledger) → Grown ls p.1.lines → Grown ls q.1.lines → Grown ls (cond b p q).1.lines
grown_cond ls true p q hp hq = hp
grown_cond ls false p q hp hq = hq

pub pushed_grown : (d e : Draft) (r : Result ℕ Refusal) (x : Line) → (answer r, drafted e) ≡ pushed (drafted d) x → Grown (lines_of d) (lines_of e)
pushed_grown d e r x w =
    let ls = lines_of d in
    subst (Grown ls) (sym (ap (λ (p : Answer × Ledger). p.1.lines) w))
    (grown_cond ls (fits (length ls) x) _ _ (grown_cond ls (eqb (length ls) 64) _ _ (grown_none ls) (x ∷ [], refl)) (grown_none ls))

-- a rule's lines come after those that were there
written_grown : (ls : List Line) (r : Rule) → Grown ls (written ls r)
written_grown ls (truth v) = (_, refl)
written_grown ls (signal k) = (_, refl)
written_grown ls (under p r) = grown_more _ _ _ (written_grown ls r) (_, refl)
written_grown ls (pair l s r) = grown_more _ _ _ (written_grown ls l) (grown_more _ _ _ (written_grown (written ls l) r) (_, refl))

pub whole_grown : (names : List (List ℕ)) (text : List ℕ) (n : ℕ) (before after : List Line) (at : ℕ) (d : Done) (r : Rule) → Whole names text n before after at d r → Grown before after
whole_grown names text n before after at d r w = subst (Grown before) (sym w.lines) (written_grown before r)

pub whole_then : (names : List (List ℕ)) (text : List ℕ) (n : ℕ) (before mid after : List Line) (at : ℕ) (d : Done) (r : Rule)
    → Whole names text n before mid at d r → Grown mid after → Grown before after
whole_then names text n before mid after at d r w g = grown_more before mid after (whole_grown names text n before mid at d r w) g

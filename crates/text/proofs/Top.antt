-- What the whole reader shows.
use Rattle.std.proofs.Common.{◌≡◌, ℕ, ◌≤◌, List, ◌++◌, length, take, IsErrAnd, Ok, Err, Result, sym, ap, ◌∙◌, subst}
use Rattle.std.proofs.lemmas.List.{append-nil, take_at, drop_all}
use Rattle.std.proofs.lemmas.Result.{err_from_is_err_and}
use Rattle.sheet.specs.declared.line.Line.{Line}
use Rattle.text.specs.declared.fault.Fault.{Fault}
use Rattle.text.specs.declared.reader.Done.{Done}
use Rattle.text.specs.Guards.{Grown}
use Rattle.lexer.specs.Names.{Good, names_of}
use Rattle.text.specs.Reading.{Accepted, Faulty, FirstFault, FullAlone, Unambiguous, Verdict}
use Rattle.text.specs.Rules.{Rule, spelled}
use Rattle.text.specs.Steps.{Whole}
use Rattle.lexer.proofs.Naming.{good_names, good_different}
use Rattle.text.proofs.One.{one_fault, first_full}
use Rattle.text.proofs.Unique.{apart, one_fitting}

-- what is left where a guard is let go
pub back : (before after : List Line) (kept : ℕ) → kept ≡ length before → Grown before after → take kept after ≡ before
back before after kept k g = ap (λ (ls : List Line). take kept ls) g.1 ∙ take_at before g.0 kept (sym k)

pub accepted : (names : List (List ℕ)) (text : List ℕ) (before after : List Line) (d : Done) (r : Rule)
    → length text ≤ 4096 → length text ≤ d.end → Whole names text 0 before after 0 d r → Grown before after → Accepted names text before after d.line r
accepted names text before after d r short le w g =
    record {
      fitting =
          record {
            short = short;
            spells = w.reads.spells ∙ ap (λ (xs : List ℕ). spelled names r ++ xs) (drop_all d.end text le) ∙ append-nil (spelled names r);
            fits = w.reads.fits;
            room = w.reads.room;
          };
      lines = w.lines;
      front = g;
      number = w.line;
    }

-- a good names line leaves no room for two readings
pub unambiguous : (line text : List ℕ) (ls : List Line) → Good line → Unambiguous (names_of line) text ls
unambiguous line text ls g =
    let all = good_names line g in
    let dif = good_different line g in
    record {
      one_rule = one_fitting (names_of line) text ls all dif;
      one_fault = one_fault (names_of line) text ls all dif;
      apart = apart (names_of line) text ls all dif;
    }

pub full_alone : (names : List (List ℕ)) (text : List ℕ) (ls : List Line) (f : Fault) → FirstFault names text ls f → FullAlone (Err f)
full_alone names text ls f w e at q = first_full names text ls w e at (let h : f ≡ _ = cc in h)

pub ok_alone : (n : ℕ) → FullAlone (Ok n)
ok_alone n e at q = cc

-- an exit with a fault

pub refused : (names : List (List ℕ)) (text : List ℕ) (before after : List Line) (r : Result ℕ Fault) (f : Fault)
    → IsErrAnd r (λ y. y ≡ f) → after ≡ before → FirstFault names text before f → Verdict names text before after r
refused names text before after r f e same w =
    let p = err_from_is_err_and r e in
    let P : Result ℕ Fault → Type 0 = λ q. Verdict names text before after q in
    subst P (sym (p.1 ∙ ap (λ (y : Fault). Err y) p.2)) (same, w)

pub refused_full : (names : List (List ℕ)) (text : List ℕ) (ls : List Line) (r : Result ℕ Fault) (f : Fault)
    → IsErrAnd r (λ y. y ≡ f) → FirstFault names text ls f → FullAlone r
refused_full names text ls r f e w =
    let p = err_from_is_err_and r e in
    subst FullAlone (sym (p.1 ∙ ap (λ (y : Fault). Err y) p.2)) (full_alone names text ls f w)

-- what was read through a guard, told of the draft

pub faulty_from : (names : List (List ℕ)) (text : List ℕ) (before lines : List Line) (f : Fault) → lines ≡ before
    → Faulty names text 0 lines 0 f → Faulty names text 0 before 0 f
faulty_from names text before lines f e w = let P : List Line → Type 0 = λ x. Faulty names text 0 x 0 f in subst P e w

pub whole_from : (names : List (List ℕ)) (text : List ℕ) (before lines after : List Line) (o : Done) (r : Rule) → lines ≡ before
    → Whole names text 0 lines after 0 o r → Whole names text 0 before after 0 o r
whole_from names text before lines after o r e w = let P : List Line → Type 0 = λ x. Whole names text 0 x after 0 o r in subst P e w

pub accepted_at : (names : List (List ℕ)) (text : List ℕ) (before a b : List Line) (line : ℕ) (r : Rule) → b ≡ a
    → Accepted names text before a line r → Accepted names text before b line r
accepted_at names text before a b line r e w = let P : List Line → Type 0 = λ x. Accepted names text before x line r in subst P (sym e) w

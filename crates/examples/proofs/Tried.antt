-- The worked examples, by computing the valuation that every other equals.
use Rattle.std.proofs.Common.{◌≡◌, ℕ, zero, suc, ◌+◌, ◌≤◌, ◌<◌, List, length, ◌↔◌, inl, inr, refl, sym, ◌∙◌, subst, rules, add-zero, zero-add, add-suc, suc-add, not-suc-le-zero, lit<, arith}
use Rattle.recording.specs.Kind.{Kind, TwoValued}
use Rattle.recording.specs.Kinds.{two, three}
use Rattle.recording.specs.Word.{Word}
use Rattle.sheet.specs.declared.line.Line.{Line}
use Rattle.sheet.specs.Table.{line, Lower, Named, Sheet, HasSignals}
use Rattle.meaning.specs.Logic.{Says}
use Rattle.meaning.specs.Sheet.{Values, Holds}
use Rattle.meaning.proofs.Build.{exists, build, put, row_value, until_value, always_value}
use Rattle.meaning.proofs.OneValue.{unique}
use Rattle.meaning.proofs.Reading.{reads_as_logic}
use Rattle.laws.specs.Laws.{TheValues, Fills}
use Rattle.examples.specs.Worked.{On, until_rule, weak_rule, first_tape, second_tape, lost_tape, not_weak, previous_rule, either_way, both_signs, WorkedExamples}

-- P of each of n numbers from k on, one by one
abbrev Each : (ℕ → Type 0) → ℕ → ℕ → Type 0
Each P k zero = Unit {0}
Each P k (suc n) = P k × Each P (suc k) n

each_at : (P : ℕ → Type 0) (n k : ℕ) → Each P k n → (i : ℕ) → i < n → P (k + i)
each_at P zero k h i b = absurd (not-suc-le-zero b)
each_at P (suc n) k h zero b = subst P (sym (add-zero k)) h.0
each_at P (suc n) k h (suc i) b = subst P (suc-add k i ∙ sym (add-suc k i)) (each_at P n (suc k) h.1 i (omega arith))

each_below : (P : ℕ → Type 0) (n : ℕ) → Each P 0 n → (i : ℕ) → i < n → P i
each_below P n h i b = subst P (zero-add i) (each_at P n 0 h i b)

abbrev IsSheet : List Line → Type 0
IsSheet lines = Each (λ k. Lower k (line lines k)) 0 (length lines)

abbrev AllNamed : ℕ → List Line → Type 0
AllNamed c lines = Each (λ k. Named c (line lines k)) 0 (length lines)

-- a sheet that is written out has its one valuation, and it can be computed
module _ (K : Kind) (word : Word K.Value) (lines : List Line) (sheet : IsSheet lines) (named : AllNamed word.signals lines) where
  is_sheet : Sheet lines
  is_sheet = each_below (λ k. Lower k (line lines k)) (length lines) sheet

  is_named : HasSignals lines word.signals
  is_named = each_below (λ k. Named word.signals (line lines k)) (length lines) named

  abbrev built : ℕ → Values K
  built = (exists K word lines is_sheet is_named).0

  the_values : TheValues K word lines built
  the_values =
      record {
        valuation = (exists K word lines is_sheet is_named).1;
        only = λ g val k hk t. unique K word lines is_sheet g built val (exists K word lines is_sheet is_named).1 k hk t;
      }

  on : (P : (ℕ → Values K) → Type 0) → P built → On K word lines P
  on P h = (built, the_values, h)

  -- where a line holds
  logic : TwoValued K → (k : ℕ) → k < length lines → (t : ℕ) → Holds K built k t ↔ Says K word built (line lines k) t
  logic tv k hk t = reads_as_logic K tv word lines is_sheet is_named built the_values.valuation k hk t

module _ (K : Kind) (tv : TwoValued K) where
  not_yes : (p : K.Value) → (p ≡ K.Yes → ⊥) → p ≡ K.No
  not_yes p h = elim (tv.one_of p) [ inl e ↦ e | inr e ↦ absurd (h e) ]

  pub both_signs_never : (word : Word K.Value) → 2 ≤ word.signals → On K word both_signs (λ f. f 4 0 ≡ K.No)
  both_signs_never word h =
      let sheet : IsSheet both_signs = search rules in
      let named : AllNamed word.signals both_signs = search (rules, arith) in
      let says = logic K word both_signs sheet named tv in
      on K word both_signs sheet named (λ f. f 4 0 ≡ K.No)
      (not_yes _ (λ e. let b = (says 4 (lit< tt) 0).0 e in (says 3 (lit< tt) 0).0 b.1 b.0))

  pub filled_either_way : (full : Word K.Value) → HasSignals either_way full.signals → Fills K either_way (lost_tape 0 1) full → On K full either_way (λ f. f 3 0 ≡ K.Yes)
  filled_either_way full has fills =
      let some : 0 < full.signals = has 0 (lit< tt) in
      let named : AllNamed full.signals either_way = (some, (some, (tt, (tt, tt)))) in
      let sheet : IsSheet either_way = search rules in
      let says = logic K full either_way sheet named tv in
      on K full either_way sheet named (λ f. f 3 0 ≡ K.Yes)
      ((says 3 (lit< tt) 0).1
      (elim (tv.one_of (full.at 0 0)) [
        | inl e ↦ inr ((says 2 (lit< tt) 0).1 (λ h. tv.differ (sym e ∙ (says 1 (lit< tt) 0).0 h)))
        | inr e ↦ inl ((says 0 (lit< tt) 0).1 e)
      ]))

  pub worked : WorkedExamples K
  unfolding exists build put row_value until_value always_value
  worked =
      record {
        until_on_a_tape = (refl, on two first_tape until_rule (search rules) (search rules) _ (refl, refl, refl));
        until_never = on two second_tape until_rule (search rules) (search rules) _ refl;
        weak_until_always = on two second_tape weak_rule (search rules) (search rules) _ refl;
        not_weak_pair = refl;
        not_weak_is = on two second_tape not_weak (search rules) (search rules) _ refl;
        not_until_pair = refl;
        next_weak_variables = refl;
        next_weak_root = refl;
        next_weak_pair = refl;
        previous_on_a_tape = (refl, on two second_tape previous_rule (search rules) (search rules) _ (refl, refl));
        lost_either_way = on three (lost_tape 0 1) either_way (search rules) (search rules) _ refl;
        filled_either_way = filled_either_way;
        until_at_once = on three (lost_tape 2 1) until_rule (search rules) (search rules) _ refl;
        both_signs_variables = refl;
        both_signs_pairs = refl;
        both_signs_never = both_signs_never;
        wheel_turns = (refl, refl, refl, refl);
      }

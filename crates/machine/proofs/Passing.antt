-- The downward pass: where it starts, and one turn of it.
use Rattle.std.proofs.Common.{◌≡◌, ℕ, suc, ◌+◌, ◌-◌, ◌<◌, ◌≤◌, Bool, true, false, ◌||◌, eqb, List, length, get_or, take, set, replicate, sym, ap, ◌∙◌, inl, inr, arith, get_or-set_other, get_or-set_same, [], ◌∷◌, ◌++◌, add-one}
use mathlib.Core.Path.{fun_ext}
use lib.ListN.{length-replicate, get_or-eq_default}
use Rattle.std.proofs.Math.Nat.{sub_self}
use Rattle.std.proofs.Math.Seq.{take-length}
use Rattle.std.proofs.lemmas.List.{get_or-replicate, take_more, length_push, same_from_push}
use Rattle.std.proofs.lemmas.Bool.{cases_eq, cases_lt, eq-eqb, ne_eqb}
use Rattle.sheet.specs.declared.line.Line.{Line}
use Rattle.sheet.specs.Table.{line, blank}
use Rattle.meaning.specs.Sheet.{rule_of}
use Rattle.machine.specs.declared.signs.Signs.{Signs}
use Rattle.machine.specs.Signs.{Sign, plus, minus}
use Rattle.machine.specs.Translation.{hands, rule_sign, signed}
use Rattle.machine.specs.Working.{told, unsigned, sign_in}

abbrev positive : Signs
positive = record { plus = true; minus = false }

told_rule : (b : Bool) (r a : ℕ) (s : Sign) → eqb a r ≡ b → (x : Signs) → x ≡ record { plus = b; minus = false } → told x s ≡ rule_sign r a s
told_rule b r a plus e x h = ap (λ (y : Signs). y.plus) h ∙ sym e
told_rule b r a minus e x h = ap (λ (y : Signs). y.minus) h

all_alike : (n i : ℕ) (x : Signs) → get_or (replicate n x) i x ≡ x
all_alike n i x =
    let l = length-replicate n x in
    elim (cases_lt i n) [ inl h ↦ get_or-replicate n i x x h | inr h ↦ get_or-eq_default (replicate n x) x (omega arith) ]

-- at first the rule alone has a sign
rule_first : (r : ℕ) → r < 64 → (a : ℕ) (s : Sign) → sign_in (set (replicate 64 unsigned) r positive) a s ≡ rule_sign r a s
rule_first r h a s =
    let l = length-replicate 64 unsigned in
    elim (cases_eq a r) [
      | inl e ↦ told_rule true r a s (eq-eqb a r e) _ (ap (λ k. get_or (set (replicate 64 unsigned) r positive) k unsigned) e ∙ get_or-set_same (replicate 64 unsigned) r positive unsigned (omega arith))
      | inr ne ↦ told_rule false r a s (ne_eqb a r ne) _ (get_or-set_other (replicate 64 unsigned) r a positive unsigned ne ∙ all_alike 64 a unsigned)
    ]

-- line m hands its signs on, and the n - m - 1 above it have done so
pass_turn : (x : ℕ → Line) (r m n : ℕ) (xs ys : List Signs) → m < n
    → ((a : ℕ) (s : Sign) → sign_in xs a s ≡ signed x r (suc m) (n - suc m) a s)
    → ((a : ℕ) (s : Sign) → sign_in ys a s ≡ (sign_in xs a s || hands (x m) (told (get_or xs m unsigned)) a s))
    → (a : ℕ) (s : Sign) → sign_in ys a s ≡ signed x r m (n - m) a s
pass_turn x r m n xs ys below before after a s =
    let more : suc (n - suc m) ≡ n - m = omega arith in
    after a s
    ∙ ap (λ b. b || hands (x m) (told (get_or xs m unsigned)) a s) (before a s)
    ∙ ap (λ own. signed x r (suc m) (n - suc m) a s || hands (x m) own a s) (fun_ext (before m))
    ∙ ap (λ j. signed x r m j a s) more

-- the lines that are not left have handed their signs on
pub record Passed (lines left : List Line) (count : ℕ) (signs : List Signs) : Type 0 where
  pub from_zero : count ≡ 0
  pub first : take (length left) lines ≡ left
  pub few : length left ≤ length lines
  pub signed_by : (a : ℕ) (s : Sign) → sign_in signs a s ≡ signed (line lines) (rule_of lines) (length left) (length lines - length left) a s

pub passed_none : (lines left : List Line) (count : ℕ) (none : Signs) → left ≡ lines → count ≡ 0 → (none.plus ≡ false) × (none.minus ≡ false) → 0 < length lines → length lines ≤ 64
    → Passed lines left count (set (replicate 64 none) (length lines - 1) positive)
passed_none lines left count none e zero is some few =
    let l = ap length e in
    let same : none ≡ unsigned = λ i. record { plus = is.0 i; minus = is.1 i } in
    record {
      from_zero = zero;
      first = ap (λ n. take n lines) l ∙ take-length lines ∙ sym e;
      few = omega arith;
      signed_by = λ a s. ap (λ x. sign_in (set (replicate 64 x) (rule_of lines) positive) a s) same ∙ rule_first (rule_of lines) (omega arith) a s
          ∙ ap (λ m. signed (line lines) (rule_of lines) (length lines) m a s) (sym (sub_self (length lines)))
          ∙ ap (λ m. signed (line lines) (rule_of lines) m (length lines - m) a s) (sym l);
    }

pub passed_more : (lines before left : List Line) (now : Line) (k count count' : ℕ) (xs ys : List Signs) → Passed lines before count xs
    → before ≡ left ++ now ∷ [] → k ≡ count + length left → count' ≡ count
    → ((a : ℕ) (s : Sign) → sign_in ys a s ≡ (sign_in xs a s || hands now (told (get_or xs k unsigned)) a s))
    → Passed lines left count' ys
passed_more lines before left now k count count' xs ys p e at same after =
    let m = length left in
    let l : length before ≡ m + 1 = ap length e ∙ length_push left now in
    let k_is : k ≡ m = omega (arith, p.from_zero) in
    let parts = same_from_push (take m lines) left (line lines m) now (sym (take_more lines m blank (omega (arith, p.few))) ∙ ap (λ n. take n lines) (sym l) ∙ p.first ∙ e) in
    record {
      from_zero = same ∙ p.from_zero;
      first = parts.0;
      few = omega (arith, p.few);
      signed_by = pass_turn (line lines) (rule_of lines) m (length lines) xs ys (omega (arith, p.few))
          (λ a s. p.signed_by a s ∙ ap (λ n. signed (line lines) (rule_of lines) n (length lines - n) a s) (l ∙ add-one m))
          (λ a s. after a s ∙ (λ i. sign_in xs a s || hands (sym parts.1 i) (told (get_or xs (k_is i) unsigned)) a s));
    }

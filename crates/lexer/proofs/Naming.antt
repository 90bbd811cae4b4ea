-- The names of a line.
use Rattle.std.proofs.Common.{◌≡◌, ℕ, ◌+◌, ◌-◌, ◌<◌, ◌≤◌, true, false, List, [], length, get_or, take, drop, Some, None, Option, refl, sym, ap, ◌∙◌, subst, arith, Bor}
use Rattle.std.proofs.lemmas.List.{length-take, length-drop, get_or-take, get_or-drop, take_all}
use Rattle.std.proofs.lemmas.Iterator.{YieldsList, YieldsList-from_take}
use Rattle.std.proofs.lemmas.Iterator.Consumers.{YieldsList-from_first}
use Rattle.std.specs.Iterator.{YieldsFirstRef}
use Rattle.std.specs.Iterator.Adapters.{take_count, take_source, take_steps}
use Rattle.std.specs.List.{AllWithin, HoldsAt}
use Rattle.std.proofs.lemmas.List.FromFn.{length-enumerate_from, get_or-enumerate_from}
use Rattle.std.specs.List.{enumerate_from}
use Rattle.std.proofs.lemmas.List.Folds.{length-prefix_len}
use Rattle.std.proofs.lemmas.List.Sums.{prefix_len-le-length, prefix_len_passes, prefix_len_stops}
use Rattle.std.specs.List.{prefix_len}
use Rattle.std.specs.Char.{is_ascii_lowercase}
use Rattle.std.specs.Option.{MatchOption, is_some}
use Rattle.lexer.specs.declared.parts.Parts.{Parts}
use Rattle.std.specs.declared.iter.Take.{Take}
use Rattle.std.proofs.lemmas.Bool.Decides.{nat_tests}
use Rattle.lexer.specs.Names.{names_of, spaced, IsName, IsFirst, Finds, Good, AllNames, AllDifferent, Letters}
use Rattle.lexer.specs.Parts.{Nth, parts_left}

pub few : (line : List ℕ) → length (names_of line) ≤ 32
few line = omega (arith, length-take 32 (spaced line))

-- a walk over the first 32 parts of a line gives its names
pub names_come : (s : Take Parts) (line : List ℕ) → parts_left (take_source s) ≡ spaced line → take_count s ≡ 32
    → YieldsList (take_steps (YieldsFirstRef parts_left)) (λ x. x.now) s (names_of line)
names_come s line e n = YieldsList-from_take 32 (YieldsList-from_first (λ x. x.now) parts_left (spaced line) e) n

-- a line has as many names as parts, up to 32
pub nth_name : (line : List ℕ) (k : ℕ) (r : Option (Bor (List ℕ))) → k < 32 → Nth (spaced line) k r → Nth (names_of line) k r
nth_name line k None lt h = omega (arith, length-take 32 (spaced line))
nth_name line k (Some x) lt h = (omega (arith, length-take 32 (spaced line), h.0), h.1 ∙ sym (get_or-take 32 (spaced line) k [] lt))

-- the first of the names, as a walk finds it
pub finds : (ns : List (List ℕ)) (name : List ℕ) (r : Option ℕ) → MatchOption r (AllWithin (λ n. n ≡ name → ⊥) ns 0 (length ns)) (λ i. (i < length ns) × HoldsAt (λ n. n ≡ name) ns i × AllWithin (λ n. n ≡ name → ⊥) ns 0 i) → Finds ns name r
finds ns name None h = λ j below. h j [] (omega arith) below
finds ns name (Some k) h = (h.0, h.1 [], (λ j below. h.2 j [] (omega arith) below))

-- a good line has no more parts than names
pub good_names : (line : List ℕ) → Good line → AllNames (names_of line)
good_names line g = subst AllNames (sym (take_all 32 (spaced line) g.few)) g.names

pub good_different : (line : List ℕ) → Good line → AllDifferent (names_of line)
good_different line g = subst AllDifferent (sym (take_all 32 (spaced line) g.few)) g.different

-- an item that is a name, and stands at the first number that has it
abbrev pub IsGood : List (List ℕ) → ℕ × List ℕ → Type 0
IsGood ns p = IsName p.1 × IsFirst ns p.1 p.0

-- an item that keeps a line from being good
abbrev pub IsBad : List (List ℕ) → ℕ × List ℕ → Type 0
IsBad ns p = IsGood ns p → ⊥

-- what holds of the item of a number
holds_at : (P : ℕ × List ℕ → Type 0) (ns : List (List ℕ)) (k : ℕ) → k < length ns → HoldsAt P (enumerate_from 0 ns) k → P (k, get_or ns k [])
holds_at P ns k below h =
    let z : 0 + k ≡ k = omega arith in
    subst (λ (n : ℕ). P (n, get_or ns k [])) z (subst P (get_or-enumerate_from 0 ns k (0, []) below) (h (0, [])))

-- a line with no part of number 32 has no more than 32
pub few_parts : (line : List ℕ) (r : Option (Bor (List ℕ))) → Nth (spaced line) 32 r → is_some r ≡ false → length (spaced line) ≤ 32
few_parts line None h e = h
few_parts line (Some x) h e = absurd (cc e)

pub good_line : (line : List ℕ) → length (spaced line) ≤ 32 → AllWithin (IsGood (names_of line)) (enumerate_from 0 (names_of line)) 0 (length (enumerate_from 0 (names_of line))) → Good line
good_line line few_enough all =
    let ns : List (List ℕ) = names_of line in
    let e = take_all 32 (spaced line) few_enough in
    let l = length-enumerate_from 0 ns in
    let each : (k : ℕ) → k < length ns → IsGood ns (k, get_or ns k []) = λ k below. holds_at (IsGood ns) ns k below (λ d. all k d (omega arith) (omega (arith, l))) in
    record {
      few = few_enough;
      names = subst AllNames e (λ k lt. (each k lt).0);
      different = subst AllDifferent e (λ j k lt below. (each k below).1.2 j lt);
    }

pub bad_name : (line : List ℕ) (k : ℕ) → k < length (enumerate_from 0 (names_of line)) → HoldsAt (IsBad (names_of line)) (enumerate_from 0 (names_of line)) k → Good line → ⊥
bad_name line k lt bad g =
    let ns : List (List ℕ) = names_of line in
    let below : k < length ns = omega (arith, length-enumerate_from 0 ns) in
    let b : IsBad ns (k, get_or ns k []) = holds_at (IsBad ns) ns k below bad in
    b (good_names line g k below, (below, refl, (λ j lt' q. good_different line g j k lt' below q)))

-- the small letters at the front of what stands from a place on
pub letters_from : (text : List ℕ) (at n : ℕ) → at ≤ length text → n ≡ length (take (prefix_len is_ascii_lowercase (take (length text - at) (drop at text))) (take (length text - at) (drop at text)))
    → Letters text at (at + n)
letters_from text at n inside e =
    let whole : take (length text - at) (drop at text) ≡ drop at text = take_all _ _ (omega (arith, length-drop at text)) in
    let p : n ≡ prefix_len is_ascii_lowercase (drop at text) = e ∙ length-prefix_len is_ascii_lowercase (take (length text - at) (drop at text)) ∙ ap (prefix_len is_ascii_lowercase) whole in
    let le = prefix_len-le-length is_ascii_lowercase (drop at text) in
    let l = length-drop at text in
    record {
      from = omega arith;
      within = omega (arith, p, le, l);
      all = λ k above below.
          let i : at + (k - at) ≡ k = omega arith in
          let t : is_ascii_lowercase (get_or (drop at text) (k - at) 0) ≡ true = prefix_len_passes is_ascii_lowercase (drop at text) (k - at) 0 (omega (arith, p)) in
          let u : is_ascii_lowercase (get_or text k 0) ≡ true = rw (← i) (rw (← get_or-drop at text (k - at) 0) t) in
          grind (arith, nat_tests);
      stops = λ more letter.
          let f : is_ascii_lowercase (get_or (drop at text) (prefix_len is_ascii_lowercase (drop at text)) 0) ≡ false = prefix_len_stops is_ascii_lowercase (drop at text) 0 (omega (arith, p, l)) in
          let u : is_ascii_lowercase (get_or text (at + n) 0) ≡ false = rw (← get_or-drop at text n 0) (rw p f) in
          grind (arith, nat_tests);
    }

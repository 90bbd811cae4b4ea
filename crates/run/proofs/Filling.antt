-- Rows are filled line by line, sample by sample.
use Rattle.std.proofs.Common.{◌≡◌, ℕ, ◌+◌, ◌-◌, ◌^◌, ◌<◌, ◌≤◌, Bool, true, false, cond, ◌||◌, ◌↔◌, List, ◌++◌, length, take, drop, get_or, set, sym, refl, ap, ◌∙◌, subst, ap₂, add-zero, add-one, arith, get_or-set_other, get_or-set_same, below_more}
use Rattle.std.proofs.lemmas.List.{length-take-le, get_or-append_right, get_or-drop}
use Rattle.std.proofs.Math.ListN.{get_or-append}
use Rattle.recording.specs.Kind.{Kind}
use Rattle.recording.specs.Tape.{bit}
use Rattle.sheet.specs.declared.line.Line.{Line}
use Rattle.sheet.specs.Table.{line}
use Rattle.meaning.specs.Sheet.{rule_of}
use Rattle.machine.specs.declared.signs.Signs.{Signs}
use Rattle.laws.specs.Laws.{shown}
use Rattle.machine.specs.Signs.{plus, minus}
use Rattle.machine.specs.Translation.{used, memory, made_variables}
use Rattle.machine.specs.Working.{told, unsigned}
use Rattle.machine.specs.Working.{is_used as told_to_be_used}
use Rattle.machine.proofs.Joins.{total_le}
use Rattle.run.specs.Packing.{SignsOf, names, in_cells, Packed, RowsPacked}
use Rattle.run.proofs.RowBits.{below_next, bit_here, bit_lower}

none : (u : Bool) (n : ℕ) → n ≡ 0 → cond u n 0 ≡ 0
none true n e = e
none false n e = refl

module _ (lines : List Line) where
  abbrev is_used : ℕ → Bool
  is_used k = used (line lines) (length lines) (rule_of lines) k

  -- the variables of line k
  abbrev pub own_variables : ℕ → ℕ
  own_variables k = made_variables (line lines) (length lines) (rule_of lines) k

  -- the signs tell which lines are used
  pub told_used : (signs : List Signs) → SignsOf lines signs → (k : ℕ) (b : Bool) → b ≡ told_to_be_used (told (get_or signs k unsigned)) → b ≡ is_used k
  told_used signs signed k b e = e ∙ ap₂ ◌||◌ (signed k plus) (signed k minus)

  -- a used line with a variable has one, any other none
  pub own_one : (k : ℕ) (u m : Bool) → u ≡ is_used k → cond m 1 0 ≡ memory (line lines k) → u ≡ true → m ≡ true → own_variables k ≡ 1
  own_one k u m used has e f = ap₂ (λ (v : Bool) (n : ℕ). cond v n 0) (sym used ∙ e) (sym has ∙ ap (λ (v : Bool). cond v 1 0) f)

  pub unused_none : (k : ℕ) (u : Bool) → u ≡ is_used k → u ≡ false → own_variables k ≡ 0
  unused_none k u used e = ap (λ (v : Bool). cond v (memory (line lines k)) 0) (sym used ∙ e)

  pub own_none : (k : ℕ) (m : Bool) → cond m 1 0 ≡ memory (line lines k) → m ≡ false → own_variables k ≡ 0
  own_none k m has e = none (is_used k) (memory (line lines k)) (sym has ∙ ap (λ (v : Bool). cond v 1 0) e)

  module _ (K : Kind) {V : Type 0} (means : V → K.Value) (cells : List V) where
    module _ (k t row name : ℕ) (named : name ≡ names lines k) (packed : Packed K means lines cells k t row) where
      next : (n : ℕ) → own_variables k ≡ n → name + n ≡ names lines (k + 1)
      next n own = ap₂ ◌+◌ named (sym own) ∙ ap (names lines) (sym (add-one k))

      -- line k has a variable
      pub packed_more : (b : Bool) → own_variables k ≡ 1 → ((d : V) → (b ≡ true) ↔ (shown K (line lines k) (in_cells K means lines cells d k) t ≡ K.Yes))
          → Packed K means lines cells (k + 1) t (row + cond b (2 ^ name) 0) × (name + 1 ≡ names lines (k + 1))
      packed_more b own tells =
          let small : row < 2 ^ name = subst (λ n. row < 2 ^ n) (sym named) packed.below in (
            record {
              shows = λ d.
                  below_more _ k
                  (λ j a u one.
                  let lower : names lines j < name = omega (arith, total_le own_variables j k a, ap₂ (λ v n. cond v n 0) u one, named) in
                  subst (λ q. (q ≡ true) ↔ (shown K (line lines j) (in_cells K means lines cells d j) t ≡ K.Yes))
                  (sym (bit_lower name row (names lines j) b lower)) (packed.shows d j a u one))
                  (λ u one.
                  subst (λ q. (q ≡ true) ↔ (shown K (line lines k) (in_cells K means lines cells d k) t ≡ K.Yes))
                  (sym (ap (bit (row + cond b (2 ^ name) 0)) (sym named) ∙ bit_here name row b small)) (tells d));
              below = subst (λ n. row + cond b (2 ^ name) 0 < 2 ^ n) (next 1 own) (below_next name row b small);
            },
            next 1 own,
          )

      -- line k has none
      pub packed_same : own_variables k ≡ 0 → Packed K means lines cells (k + 1) t row × (name ≡ names lines (k + 1))
      packed_same own =
          let same : name ≡ names lines (k + 1) = sym (add-zero name) ∙ next 0 own in (
            record {
              shows = λ d. below_more _ k (packed.shows d) (λ u one. absurd (omega (arith, own, ap₂ (λ v n. cond v n 0) u one)));
              below = subst (λ n. row < 2 ^ n) (sym named ∙ same) packed.below;
            },
            same,
          )

-- one row further
module _ (K : Kind) {V : Type 0} (means : V → K.Value) (lines : List Line) (cells : List V) (before rows : List ℕ) where
  pub rows_more : (t row : ℕ) → t < length rows → RowsPacked K means lines cells before rows t → Packed K means lines cells (length lines) t row
      → RowsPacked K means lines cells before (set rows t row) (t + 1)
  rows_more t row inside so_far here =
      record {
        rows =
            below_more _ t
            (λ s a. subst (Packed K means lines cells (length lines) s) (sym (get_or-set_other rows t s row 0 (λ e. omega arith))) (so_far.rows s a))
            (subst (Packed K means lines cells (length lines) t) (sym (get_or-set_same rows t row 0 inside)) here);
        further = λ s hs. get_or-set_other rows t s row 0 (λ e. omega arith) ∙ so_far.further s (omega arith);
      }

-- rows that are packed in front of others
module _ (K : Kind) {V : Type 0} (means : V → K.Value) (lines : List Line) (cells : List V) (rows front : List ℕ) (n : ℕ) where
  pub front_packed : n ≤ length rows → length front ≡ length (take n rows) → RowsPacked K means lines cells (take n rows) front (length (take n rows))
      → RowsPacked K means lines cells rows (front ++ drop n rows) n
  front_packed room long packed =
      let count : length (take n rows) ≡ n = length-take-le n rows room in
      record {
        rows = λ t ht.
            subst (Packed K means lines cells (length lines) t) (sym (get_or-append front (drop n rows) 0 t (omega arith))) (packed.rows t (omega arith));
        further = λ t ht.
            get_or-append_right front (drop n rows) n t 0 (omega arith) ht ∙ get_or-drop n rows (t - n) 0 ∙ ap (λ i. get_or rows i 0) (omega arith);
      }

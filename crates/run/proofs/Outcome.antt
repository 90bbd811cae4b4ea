-- The rows that are packed from judged cells are the run that is written out.
use Rattle.std.proofs.Common.{◌≡◌, ℕ, zero, suc, ◌^◌, ◌<◌, ◌≤◌, true, ◌↔◌, List, length, get_or, take, sym, refl, ◌∙◌, subst, arith}
use Rattle.std.proofs.lemmas.List.{length-take, get_or-take}
use Rattle.recording.specs.Kind.{Kind, TwoValued}
use Rattle.recording.specs.Word.{Word, meant}
use Rattle.recording.proofs.Bits.{within_small}
use Rattle.sheet.specs.declared.line.Line.{Line}
use Rattle.sheet.specs.declared.line.Line.TheVariants.{Const, Signal, Not, And, Or, Next, Until, WeakUntil, Previous, WeakPrevious, Since, WeakSince}
use Rattle.sheet.specs.Table.{line, Sheet}
use Rattle.meaning.specs.Sheet.{Values, before, rule_of}
use Rattle.meaning.specs.Verdict.{steady, horizon, Filled}
use Rattle.machine.specs.declared.gate.Variable.TheVariants as variable
use Rattle.laws.specs.Laws.{Shows, shown, written_out}
use Rattle.laws.specs.Runs.{Accepts, row_bits}
use Rattle.machine.specs.Translation.{variable_lists, made_variables, translate}
use Rattle.machine.proofs.Joins.{joined_length}
use Rattle.machine.proofs.Numbers.{variable_counts}
use Rattle.laws.proofs.Theorems.{written_law}
use Rattle.run.specs.Packing.{names, in_cells, RowsPacked}
use Rattle.run.specs.Writing.{WrittenOut}

-- the translation has the variables that the lines have
variables_are : (lines : List Line) → length (translate lines).variables ≡ names lines (length lines)
variables_are lines =
    joined_length (variable_lists (line lines) (length lines) (rule_of lines)) (variable.Next 0) (made_variables (line lines) (length lines) (rule_of lines))
    (variable_counts (line lines) (length lines) (rule_of lines)) (length lines)

module _ (K : Kind) where
  -- what a variable shows at t is told by the values up to t
  before_same : (z : K.Value) (y y' : Values K) (t : ℕ) → ((s : ℕ) → s ≤ t → y s ≡ y' s) → before K z y t ≡ before K z y' t
  before_same z y y' zero e = refl
  before_same z y y' (suc t) e = e t (omega arith)

  shown_same : (x : Line) (y y' : Values K) (t : ℕ) → ((s : ℕ) → s ≤ t → y s ≡ y' s) → shown K x y t ≡ shown K x y' t
  shown_same (Const b) y y' t e = e t (omega arith)
  shown_same (Signal i) y y' t e = e t (omega arith)
  shown_same (Not a) y y' t e = e t (omega arith)
  shown_same (And a b) y y' t e = e t (omega arith)
  shown_same (Or a b) y y' t e = e t (omega arith)
  shown_same (Next a) y y' t e = e t (omega arith)
  shown_same (Until a b) y y' t e = e t (omega arith)
  shown_same (WeakUntil a b) y y' t e = e t (omega arith)
  shown_same (Previous a) y y' t e = e t (omega arith)
  shown_same (WeakPrevious a) y y' t e = e t (omega arith)
  shown_same (Since a b) y y' t e = before_same K.No y y' t e
  shown_same (WeakSince a b) y y' t e = before_same K.Yes y y' t e

module _ (K : Kind) (only : TwoValued K) {V : Type 0} (means : V → K.Value) (lines : List Line) (sheet : Sheet lines) (some : 0 < length lines)
    (w : Word V) (before after : List V) (rows rows' : List ℕ) where
  -- the rows show the values that the cells have
  shows_cells : RowsPacked K means lines after rows rows' (horizon lines w) → (d : V) (f : ℕ → Values K)
      → ((k t : ℕ) → k < length lines → t < horizon lines w → in_cells K means lines after d k t ≡ f k t)
      → Shows K lines f (horizon lines w) (row_bits rows')
  shows_cells packed d f are k hk u one t ht =
      subst (λ v. (row_bits rows' (names lines k) t ≡ true) ↔ (v ≡ K.Yes))
      (shown_same K (line lines k) (in_cells K means lines after d k) (f k) t (λ s hs. are k s hk (omega arith)))
      ((packed.rows t ht).shows d k hk u one)

  pub written_is : (count back : ℕ) (verdict : V) → count ≡ horizon lines w → back ≡ steady lines w → horizon lines w ≤ length rows → length rows' ≡ length rows
      → Filled K means lines w (rule_of lines) 0 before after verdict → RowsPacked K means lines after rows rows' (horizon lines w)
      → WrittenOut K means lines w before after rows rows' (record { rows = count; back = back; verdict = verdict })
  written_is count back verdict is_count is_back room long filled packed =
      let law = written_law K only lines sheet some (meant means w) filled.has_signals in
      let same : (k t : ℕ) → k < length lines → filled.f k t ≡ law.0 k t = λ k t hk. law.1.only filled.f filled.valuation k hk t in
      let each = law.2.1 (row_bits rows') (shows_cells packed verdict law.0 (λ k t hk ht. filled.cells k t hk ht verdict ∙ same k t hk)) in
      record {
        filled = filled;
        room = room;
        count = is_count;
        back = is_back;
        shows = shows_cells packed verdict filled.f (λ k t hk ht. filled.cells k t hk ht verdict);
        others =
            within_small (length (translate lines).variables) (take (horizon lines w) rows')
            (λ t ht.
            let in_rows : t < horizon lines w = omega (arith, length-take (horizon lines w) rows') in
            subst (λ r. r < 2 ^ length (translate lines).variables) (sym (get_or-take (horizon lines w) rows' t 0 in_rows))
            (subst (λ n. get_or rows' t 0 < 2 ^ n) (sym (variables_are lines)) (packed.rows t in_rows).below));
        further = packed.further;
        as_long = long;
        is_run = each.0;
        accepting =
            subst (λ v. Accepts K (translate lines) (meant means w) 0 (written_out lines w (row_bits rows')) ↔ (v ≡ K.Yes))
            (sym (filled.verdict ∙ same (rule_of lines) 0 (omega arith))) each.1;
      }

-- The laws of the translation.
use Rattle.std.proofs.Common.{◌≡◌, ℕ, zero, suc, ◌<◌, Bool, true, false, ◌↔◌, List, length, sym, refl, ap, ◌∙◌, inl, inr, arith}
use mathlib.Core.Bool.{false≢true}
use Rattle.recording.specs.Kind.{Kind, TwoValued}
use Rattle.recording.specs.Kinds.{two, three}
use Rattle.recording.specs.Word.{Word}
use Rattle.sheet.specs.declared.line.Line.{Line}
use Rattle.sheet.specs.declared.line.Line.TheVariants.{Since, WeakSince}
use Rattle.sheet.specs.Table.{line, Sheet, HasSignals}
use Rattle.meaning.specs.Sheet.{Values, Valuation, Holds, Row, constant, rule_of}
use Rattle.meaning.specs.Verdict.{steady, horizon}
use Rattle.meaning.proofs.Build.{exists}
use Rattle.meaning.proofs.OneValue.{unique}
use Rattle.laws.specs.Laws.{TheValues, Always, Exact, Between, Bounds, own, shown, Shows, WrittenRun, CheckDecides, Filling}
use Rattle.laws.specs.Runs.{Bits, Fair, IsRun, Accepting, Accepts, HasAcceptingRun, endless}
use Rattle.machine.specs.Signs.{Sign, plus, minus}
use Rattle.machine.specs.Translation.{has, used, memory, place, name, translate}
use Rattle.laws.proofs.AsBits.{is_yes, bits_of, reads_as_bits, yes_is, is_yes_of, is_yes_no}
use Rattle.laws.proofs.Behave.{same_bit}
use Rattle.laws.proofs.BitRuns.{to_bits, from_bits}
use Rattle.laws.proofs.Bits.{Bound, by_plus, by_minus}
use Rattle.laws.proofs.Checking.{check_decides}
use Rattle.laws.proofs.Completeness.{bits, bits_place, shown_run, shown_fair, notes, notes_show}
use Rattle.laws.proofs.Filled.{filled}
use Rattle.laws.proofs.Neutrals.{or_yes, yes_or, no_or}
use Rattle.machine.proofs.Signing.{rule_plus, used_of}
use Rattle.machine.proofs.SignsAgree.{signs_are}
use Rattle.laws.proofs.Soundness.{bound}
use Rattle.laws.proofs.Wrapped.{lasso}

pub the_values : (K : Kind) (word : Word K.Value) (lines : List Line) → Sheet lines → (f : ℕ → Values K) → Valuation K word lines f → TheValues K word lines f
the_values K word lines sheet f val = record { valuation = val; only = λ g vg k hk t. unique K word lines sheet g f vg val k hk t }

-- what holds of every valuation holds with the one that there is
always : (K : Kind) (P : List Line → Word K.Value → (ℕ → Values K) → Type 0)
    → ((lines : List Line) → Sheet lines → 0 < length lines → (word : Word K.Value) → HasSignals lines word.signals
    → (f : ℕ → Values K) → Valuation K word lines f → P lines word f)
    → Always K P
always K P holds lines sheet some word nam =
    let e = exists K word lines sheet nam in
    (e.0, the_values K word lines sheet e.0 e.1, holds lines sheet some word nam e.0 e.1)

module _ (K : Kind) (only : TwoValued K) where
  -- what a variable shows, read as bits
  shown_bits : (x : Line) (y : Values K) (t : ℕ) → is_yes K only (shown K x y t) ≡ shown two x (λ s. is_yes K only (y s)) t
  shown_bits (Since a b) y zero = is_yes_no K only
  shown_bits (Since a b) y (suc t) = refl
  shown_bits (WeakSince a b) y zero = is_yes_of K only K.Yes refl
  shown_bits (WeakSince a b) y (suc t) = refl
  shown_bits _ y t = refl

  -- a bit that bounds a value's bit bounds the value
  bounds : (s : Sign) (b : Bool) (v : K.Value) → Bound s b (is_yes K only v) → Bounds K s (constant K b) v
  bounds plus true v h = yes_or K v ∙ sym (yes_is K only v (by_plus h refl))
  bounds plus false v h = no_or K v
  bounds minus true v h = or_yes K v
  bounds minus false v h =
      elim (only.one_of v) [
        | inl e ↦ ap (λ z. K.Or z K.No) e ∙ no_or K K.No
        | inr e ↦ absurd (false≢true (by_minus h (is_yes_of K only v e)))
      ]

  module _ (lines : List Line) (sheet : Sheet lines) (some : 0 < length lines) (word : Word K.Value) (nam : HasSignals lines word.signals)
      (f : ℕ → Values K) (val : Valuation K word lines f) where
    abbrev x : ℕ → Line
    x = line lines

    abbrev n : ℕ
    n = length lines

    abbrev r : ℕ
    r = rule_of lines

    -- the values as bits
    abbrev f₂ : ℕ → Values two
    f₂ k t = is_yes K only (f k t)

    val₂ : (k : ℕ) → k < n → (t : ℕ) → Row two (bits_of K only word) (x k) f₂ t (f₂ k t)
    val₂ = reads_as_bits K only word x n f val

    rule_in : r < n
    rule_in = omega arith

    bounded : (run g : Bits) → IsRun K (translate lines) word run g → Fair (translate lines) g
        → (k : ℕ) (s : Sign) → k < n → has x n r k s ≡ true → (t : ℕ) → Bound s (g (place x n r k) t) (f₂ k t)
    bounded run g is fair k s hk h t =
        bound (bits_of K only word) x n r run g (to_bits K only (translate lines) word run g is) fair sheet f₂ val₂ (suc k) k (omega arith) hk s h t

    pub between : (run g : Bits) → IsRun K (translate lines) word run g → Fair (translate lines) g
        → (k : ℕ) (s : Sign) → k < n → has x n r k s ≡ true → (t : ℕ) → Bounds K s (constant K (g (own lines k) t)) (f k t)
    between run g is fair k s hk h t = bounds s (g (place x n r k) t) (f k t) (bounded run g is fair k s hk h t)

    -- an accepting run shows that the rule holds
    pub sound : (p : ℕ) (run : Bits) → Accepts K (translate lines) word p run → Holds K f (rule_of lines) p
    sound p run (g, acc) = yes_is K only (f r p) (by_plus (bounded run g acc.is_run acc.fair r plus rule_in (rule_plus x r n sheet) p) acc.root)

    -- a run that shows the values
    module _ (run : Bits) (shows : (k : ℕ) → k < n → used x n r k ≡ true → memory (x k) ≡ 1 → (t : ℕ) → run (name x n r k) t ≡ shown two (x k) (f₂ k) t) where
      abbrev gates : Bits
      gates = bits x n r f₂

      pub is_run : IsRun K (translate lines) word run gates
      is_run = from_bits K only (translate lines) word run gates (shown_run x n r f₂ (bits_of K only word) sheet nam val₂ run shows)

      pub complete : (p : ℕ) → Holds K f (rule_of lines) p → Accepting K (translate lines) word p run gates
      complete p h =
          record {
            is_run = is_run;
            root = ap (λ l. l p) (bits_place x n r f₂ r rule_in (used_of x r n r plus (rule_plus x r n sheet))) ∙ is_yes_of K only (f r p) h;
            fair = shown_fair x n r f₂ (bits_of K only word) sheet nam val₂ run shows;
          }

    shown_notes : (k : ℕ) → k < n → used x n r k ≡ true → memory (x k) ≡ 1 → (t : ℕ) → notes x n r f₂ (name x n r k) t ≡ shown two (x k) (f₂ k) t
    shown_notes k hk u one t = ap (λ l. l t) (notes_show x n r f₂ k hk u one)

    pub exact : (p : ℕ) → HasAcceptingRun K (translate lines) word p ↔ Holds K f (rule_of lines) p
    exact p = (λ w. sound p w.0 w.1, λ h. (notes x n r f₂, (gates (notes x n r f₂) shown_notes, complete (notes x n r f₂) shown_notes p h)))

    pub notes_shown : (m : ℕ) → Shows K lines f m (notes x n r f₂)
    notes_shown m k hk u one t ht =
        let e : notes x n r f₂ (name x n r k) t ≡ is_yes K only (shown K (x k) (f k) t) = shown_notes k hk u one t ∙ sym (shown_bits (x k) (f k) t) in
        (λ h. yes_is K only (shown K (x k) (f k) t) (sym e ∙ h), λ h. e ∙ is_yes_of K only (shown K (x k) (f k) t) h)

    -- rows that show the values, as an endless run
    module _ (rows : Bits) (shows : Shows K lines f (horizon lines word) rows) where
      abbrev run : Bits
      run = endless (horizon lines word) (steady lines word) rows

      looped : (k : ℕ) → k < n → used x n r k ≡ true → memory (x k) ≡ 1
          → (t : ℕ) → endless (horizon lines word) (steady lines word) rows (name x n r k) t ≡ shown two (x k) (f₂ k) t
      looped k hk u one =
          lasso (bits_of K only word) x n r sheet nam f₂ val₂ rows k hk
          (λ t ht.
          let w = shows k hk u one t ht in
          same_bit (rows (name x n r k) t) (is_yes K only (shown K (x k) (f k) t))
          (λ e. is_yes_of K only (shown K (x k) (f k) t) (w.0 e)) (λ e. w.1 (yes_is K only (shown K (x k) (f k) t) e))
          ∙ shown_bits (x k) (f k) t)

      pub written : ((g : Bits) × IsRun K (translate lines) word (endless (horizon lines word) (steady lines word) rows) g)
          × ((p : ℕ) → Accepts K (translate lines) word p (endless (horizon lines word) (steady lines word) rows) ↔ Holds K f (rule_of lines) p)
      written =
          ((gates run looped, is_run run looped), λ p. (sound p run, λ h. (gates run looped, complete run looped p h)))

pub exact_law : (K : Kind) → TwoValued K → Exact K
exact_law K only =
    always K (λ lines word f. HasAcceptingRun K (translate lines) word 0 ↔ Holds K f (rule_of lines) 0)
    (λ lines sheet some word nam f val. exact K only lines sheet some word nam f val 0)

pub between_law : (K : Kind) → TwoValued K → Between K
between_law K only =
    always K _
    (λ lines sheet some word nam f val run g is fair k s hk h t.
    between K only lines sheet some word nam f val run g is fair k s hk ((signs_are lines sheet k s).1 h) t)

pub written_law : (K : Kind) → TwoValued K → WrittenRun K
written_law K only =
    always K _
    (λ lines sheet some word nam f val. (
      (notes _ _ _ _, notes_shown K only lines sheet some word nam f val (horizon lines word)),
      λ rows shows.
          let w = written K only lines sheet some word nam f val rows shows in
          (w.0, w.1 0),
    ))

pub check_law : (K : Kind) → CheckDecides K
check_law K m wired word named n back turns rows = check_decides K m wired word named n back turns rows 0

pub filling_law : (B : Kind) → Filling B
filling_law B =
    always three _
    (λ lines sheet some gapped nam f val full nam₂ fill.
    let e = exists B full lines sheet nam₂ in
    (e.0, the_values B full lines sheet e.0 e.1, filled B lines sheet gapped full nam fill f val e.0 e.1))

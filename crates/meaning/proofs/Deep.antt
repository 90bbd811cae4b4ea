-- A line repeats from a cycle after the stem for each level that it is deep, so that no more of it has to be filled.
use Rattle.std.proofs.Common.{◌≡◌, ℕ, zero, suc, ◌+◌, ◌-◌, ◌*◌, ◌<◌, ◌≤◌, Bool, eqb, List, length, get_or, set, sym, ap, ◌∙◌, subst, ap₂, add-zero, add-suc, add-mul, add-one, arith, length-set, get_or-set_other, get_or-set_same}
use native.Mathlib.Decide.{dec_lt}
use Rattle.std.proofs.lemmas.Nat.{mul-add-lt, mul-le}
use Rattle.std.specs.Int.{from_bool}
use Rattle.recording.specs.Kind.{Kind}
use Rattle.recording.specs.Word.{Word, meant}
use Rattle.sheet.specs.declared.line.Line.{Line}
use Rattle.sheet.specs.declared.line.Line.TheVariants.{Const, Signal, Not, And, Or, Next, Until, WeakUntil, Previous, WeakPrevious, Since, WeakSince}
use Rattle.sheet.specs.Table.{line, Lower, Sheet, HasSignals, past, pasts}
use Rattle.meaning.specs.Cells.{Room, column, Fills, Repeated}
use Rattle.meaning.specs.Columns.{written}
use Rattle.meaning.specs.Depths.{under, deep}
use Rattle.meaning.specs.Sheet.{Values, Valuation, Periodic}
use Rattle.meaning.specs.Verdict.{horizon}
use Rattle.meaning.proofs.Counting.{past_bit}
use Rattle.meaning.proofs.Filling.{others_kept, room, same_sample}
use Rattle.meaning.proofs.Passes.{future}
use Rattle.meaning.proofs.Period.{over_under, row_over}
use Rattle.meaning.proofs.Rows.{Columns, written_cong, written_is, past_most}

-- so many samples reach a cycle past those that lines of depth n want
abbrev pub Reach : {V : Type 0} → Word V → ℕ → ℕ → Type 0
Reach w samples n = samples ≡ w.stem + n * w.cycle + w.cycle

-- the depths of the lines below k: none is above n, at least n of the lines look back, and each line repeats from so
-- many cycles after the stem on
pub record Deep (K : Kind) {V : Type 0} (means : V → K.Value) (lines : List Line) (w : Word V) (depths : List ℕ) (n k : ℕ) : Type 0 where
  pub sized : length depths ≡ 64
  pub bounded : (a : ℕ) → a < k → get_or depths a 0 ≤ n
  pub few : n ≤ pasts (line lines) k
  pub repeats : (f : ℕ → Values K) → Valuation K (meant means w) lines f → (a : ℕ) → a < k → Periodic K w.cycle (w.stem + get_or depths a 0 * w.cycle) (f a)

-- the lines that a line names bound what is under it
pub under_most : (k n : ℕ) (d : ℕ → ℕ) (x : Line) → Lower k x → ((a : ℕ) → a < k → d a ≤ n) → under d x ≤ n
under_most k n d (Const b) low h = omega arith
under_most k n d (Signal i) low h = omega arith
under_most k n d (Not a) low h = h a low
under_most k n d (And a b) low h = omega (arith, h a low.0, h b low.1)
under_most k n d (Or a b) low h = omega (arith, h a low.0, h b low.1)
under_most k n d (Next a) low h = h a low
under_most k n d (Until a b) low h = omega (arith, h a low.0, h b low.1)
under_most k n d (WeakUntil a b) low h = omega (arith, h a low.0, h b low.1)
under_most k n d (Previous a) low h = h a low
under_most k n d (WeakPrevious a) low h = h a low
under_most k n d (Since a b) low h = omega (arith, h a low.0, h b low.1)
under_most k n d (WeakSince a b) low h = omega (arith, h a low.0, h b low.1)

pasts_count : (x : ℕ → Line) (k : ℕ) → pasts x k ≤ k
pasts_count x zero = omega arith
pasts_count x (suc k) = omega (arith, pasts_count x k, past_most (x k))

pasts_more : (x : ℕ → Line) (j i : ℕ) → pasts x j ≤ pasts x (j + i)
pasts_more x j zero = rw (add-zero j) (omega arith)
pasts_more x j (suc i) = rw (add-suc j i) (omega (arith, pasts_more x j i))

pub pasts_mono : (x : ℕ → Line) (j k : ℕ) → j ≤ k → pasts x j ≤ pasts x k
pasts_mono x j k h =
    let e : j + (k - j) ≡ k = omega arith in
    subst (λ m. pasts x j ≤ pasts x m) e (pasts_more x j (k - j))

module _ (K : Kind) {V : Type 0} (means : V → K.Value) (lines : List Line) (w : Word V) where
  -- the lines below k repeat from S on
  abbrev pub Steady : ℕ → ℕ → Type 0
  Steady S k = (f : ℕ → Values K) → Valuation K (meant means w) lines f → (a : ℕ) → a < k → Periodic K w.cycle S (f a)

  module _ (sheet : Sheet lines) (named : HasSignals lines w.signals) where
    module _ (depths : List ℕ) (n k : ℕ) (below : k < length lines) (small : k < 64) (deeps : Deep K means lines w depths n k) where
      abbrev own : ℕ
      own = deep (λ a. get_or depths a 0) (line lines k)

      pub own_most : own ≤ n + past (line lines k)
      own_most = omega (arith, under_most k n (λ a. get_or depths a 0) (line lines k) (sheet k below) deeps.bounded)

      -- at most one level deeper, and no deeper than there are lines that look back
      pub one_deeper : own - n ≤ 1
      one_deeper = omega (arith, own_most, past_most (line lines k))

      pub deep_few : n + (own - n) ≤ pasts (line lines) (k + 1)
      deep_few = rw (add-one k) (omega (arith, own_most, deeps.few))

      own_repeats : (f : ℕ → Values K) → Valuation K (meant means w) lines f → Periodic K w.cycle (w.stem + own * w.cycle) (f k)
      own_repeats f val t ht =
          let S : ℕ = w.stem + under (λ a. get_or depths a 0) (line lines k) * w.cycle in
          row_over K (meant means w) S (omega arith) f (f k) (line lines k)
          (over_under k (λ a. get_or depths a 0) (line lines k) (sheet k below) (λ a. Periodic K w.cycle S (f a))
          (λ a ha le s hs. deeps.repeats f val a ha s (omega (arith, mul-le (get_or depths a 0) w.cycle (under (λ a. get_or depths a 0) (line lines k)) w.cycle le (omega arith)))))
          (named k below) (val k below) t
          (omega (arith, add-mul (under (λ a. get_or depths a 0) (line lines k)) (past (line lines k)) w.cycle))

      pub deep_more : (depth more : ℕ) (after : List ℕ) → depth ≡ own → more ≡ depth - n → after ≡ set depths k depth → Deep K means lines w after (n + more) (k + 1)
      deep_more depth more after ed em ea =
          let there : (a : ℕ) → a < k → get_or after a 0 ≡ get_or depths a 0 =
          λ a ha. ap (λ l. get_or l a 0) ea ∙ get_or-set_other depths k a depth 0 (λ e. omega arith) in
          let here : get_or after k 0 ≡ depth = ap (λ l. get_or l k 0) ea ∙ get_or-set_same depths k depth 0 (omega (arith, deeps.sized)) in
          record {
            sized = ap length ea ∙ simp length-set deeps.sized;
            bounded = λ a ha.
                elim (dec_lt a k) [
                  | yes h ↦ omega (arith, there a h, deeps.bounded a h)
                  | no h ↦ let e : k ≡ a = omega arith in subst (λ b. get_or after b 0 ≤ n + more) e (omega (arith, here))
                ];
            few = omega (arith, deep_few);
            repeats = λ f val a ha.
                elim (dec_lt a k) [
                  | yes h ↦ subst (λ m. Periodic K w.cycle (w.stem + m * w.cycle) (f a)) (sym (there a h)) (deeps.repeats f val a h)
                  | no h ↦
                      let e : k ≡ a = omega arith in
                      subst (λ b. Periodic K w.cycle (w.stem + get_or after b 0 * w.cycle) (f b)) e
                      (subst (λ m. Periodic K w.cycle (w.stem + m * w.cycle) (f k)) (sym (here ∙ ed)) (own_repeats f val))
                ];
          }

    -- line k, where it and the lines below repeat from back on, and the columns below are as every valuation has them
    pub columns_at : (back n k : ℕ) → n ≡ back + w.cycle → k < length lines → Steady back (k + 1) → (cells after : List V)
        → Fills means (length lines) k cells (λ d t. written K (meant means w) back n (line lines k) (λ a. column means cells (length lines) a d) t) 0 n after
        → Columns K means lines w n k cells → Columns K means lines w n (k + 1) after
    columns_at back n k en hk rep cells after fills cols f val a ha t ht d =
        elim (dec_lt a k) [
          | yes h ↦ ap means (others_kept means (length lines) k hk cells _ 0 n after fills a h d t) ∙ cols f val a h t ht d
          | no h ↦
              let e : k ≡ a = omega arith in
              let hb : back < n = omega (arith, w.sizes.3) in
              subst (λ i. column means after (length lines) i d t ≡ f i t) e
              (fills.values d t (omega arith) ht
              ∙ written_cong K (meant means w) back n hb k (line lines k) (sheet k hk) (λ i. column means cells (length lines) i d) f (λ i hi s hs. cols f val i hi s hs d) t ht
              ∙ written_is K (meant means w) back n hb k f en (λ i hi. rep f val i (omega arith)) (f k) (line lines k) (sheet k hk)
              (future K (meant means w) k back f (λ i hi. rep f val i (omega arith)) (f k) (rep f val k (omega arith)) (line lines k) (sheet k hk) (val k hk))
              t ht (val k hk t))
        ]

  -- what lies within the depths n repeats from n cycles after the stem on
  pub steady_by : (depths : List ℕ) (n k S : ℕ) → Deep K means lines w depths n k → S ≡ w.stem + n * w.cycle → Steady S k
  steady_by depths n k S deeps e f val a ha t ht =
      deeps.repeats f val a ha t (omega (arith, mul-le (get_or depths a 0) w.cycle n w.cycle (deeps.bounded a ha) (omega arith)))

  -- copied samples are as every valuation has them
  pub columns_longer : (n k count : ℕ) (cells after : List V) → k ≤ length lines → w.cycle ≤ n → count ≤ w.cycle → Steady (n - w.cycle) k
      → Repeated (length lines) k w.cycle n (n + count) cells after → Columns K means lines w n k cells → Columns K means lines w (n + count) k after
  columns_longer n k count cells after hk hn hc rep copied cols f val a ha t ht d =
      elim (dec_lt t n) [
        | yes h ↦
            ap means (copied.others d (t * length lines + a) (λ u b h₁ h₂ hb z. let e : t ≡ u = same_sample (length lines) t a u b (omega arith) (omega arith) z in omega arith))
            ∙ cols f val a ha t h d
        | no h ↦
            let e : t - w.cycle + w.cycle ≡ t = omega arith in
            ap means (copied.copies d t a (omega arith) ht ha) ∙ cols f val a ha (t - w.cycle) (omega (arith, w.sizes.3)) d
            ∙ sym (rep f val a ha (t - w.cycle) (omega arith)) ∙ ap (f a) e
      ]

-- samples that reach n levels may be followed by more
pub reach_more : {V : Type 0} (lines : List Line) (w : Word V) (samples n m : ℕ) → Reach w samples n → n + m ≤ pasts (line lines) (length lines)
    → samples + m * w.cycle ≤ horizon lines w
reach_more lines w samples n m r h =
    omega (arith, add-mul n m w.cycle, mul-le (n + m) w.cycle (pasts (line lines) (length lines)) w.cycle h (omega arith))

pub reach_longer : {V : Type 0} (w : Word V) (samples n m : ℕ) → Reach w samples n → Reach w (samples + m * w.cycle) (n + m)
reach_longer w samples n m r = omega (arith, add-mul n m w.cycle)

-- cells behind the table stay
pub further_longer : {V : Type 0} {width m v lo hi most : ℕ} {cells after : List V} → m ≤ width → hi ≤ most → Repeated width m v lo hi cells after
    → (i : ℕ) → width * most ≤ i → (d : V) → get_or after i d ≡ get_or cells i d
further_longer {width = width} {hi = hi} {most = most} hm hh copied i h d =
    copied.others d i (λ t a h₁ h₂ ha e. omega (arith, mul-add-lt t width a hi h₂ (omega arith), mul-le width hi width most (omega arith) hh))

-- all samples of a table that reaches no further than the cells
pub roomy : {V : Type 0} (lines : List Line) (w : Word V) (cells : List V) (m : ℕ)
    → length lines * horizon lines w ≤ length cells → m ≤ horizon lines w → Room cells (length lines) m
roomy lines w cells m h le = room cells (length lines) m (omega (arith, mul-le (length lines) m (length lines) (horizon lines w) (omega arith) le))

-- samples that do not reach the end have a level to go
pub level_more : {V : Type 0} (lines : List Line) (w : Word V) (samples n : ℕ) → Reach w samples n → samples < horizon lines w
    → n + 1 ≤ pasts (line lines) (length lines)
level_more lines w samples n r h =
    elim (dec_lt n (pasts (line lines) (length lines))) [
      | yes a ↦ omega arith
      | no b ↦ absurd (omega (arith, mul-le (pasts (line lines) (length lines)) w.cycle n w.cycle (omega arith) (omega arith)))
    ]

-- and those that do not lie before it are all samples
pub reach_all : {V : Type 0} (lines : List Line) (w : Word V) (samples n : ℕ) → Reach w samples n → n ≤ pasts (line lines) (length lines)
    → horizon lines w ≤ samples → samples ≡ horizon lines w
reach_all lines w samples n r few h =
    omega (arith, mul-le n w.cycle (pasts (line lines) (length lines)) w.cycle few (omega arith))

-- what a turn of the evaluator's loop may count on: line k, its depth, and how much deeper it is than those below
pub record Turn {V : Type 0} (lines : List Line) (w : Word V) (depths : List ℕ) (samples n k depth more : ℕ) : Type 0 where
  pub small_line : k < 64
  pub is : depth ≡ deep (λ a. get_or depths a 0) (line lines k)
  pub small : depth ≤ 64
  pub few : n + more ≤ 64
  pub turn : more * w.cycle ≤ w.cycle
  pub within : samples + more * w.cycle ≤ horizon lines w
  pub reach : Reach w (samples + more * w.cycle) (n + more)

pub turn_is : (K : Kind) {V : Type 0} (means : V → K.Value) {lines : List Line} (w : Word V) → Sheet lines → length lines ≤ 64 → HasSignals lines w.signals
    → {depths : List ℕ} {samples n k : ℕ} → k < length lines → Reach w samples n → Deep K means lines w depths n k
    → {under_it bit more : ℕ} {back : Bool} → under_it ≡ under (λ a. get_or depths a 0) (line lines k) → back ≡ eqb (past (line lines k)) 1 → bit ≡ from_bool back
    → more ≡ under_it + bit - n → Turn lines w depths samples n k (under_it + bit) more
turn_is K means {lines} w sheet short named {depths} {samples} {n} {k} below reach deeps {under_it} {bit} {more} {back} eu eb ei em =
    let looks : bit ≡ past (line lines k) = ei ∙ ap from_bool eb ∙ past_bit (line lines k) in
    let is : under_it + bit ≡ deep (λ a. get_or depths a 0) (line lines k) = ap₂ ◌+◌ eu looks in
    let few : n + more ≤ pasts (line lines) (k + 1) = omega (arith, deep_few K means lines w sheet named depths n k below (omega arith) deeps) in
    let one : more ≤ 1 = omega (arith, one_deeper K means lines w sheet named depths n k below (omega arith) deeps) in
    record {
      small_line = omega arith;
      is = is;
      small = omega (arith, own_most K means lines w sheet named depths n k below (omega arith) deeps, past_most (line lines k), deeps.few, pasts_count (line lines) k);
      few = omega (arith, pasts_count (line lines) (k + 1));
      turn = omega (arith, mul-le more w.cycle 1 w.cycle one (omega arith));
      reach = reach_longer w samples n more reach;
      within = reach_more lines w samples n more reach (omega (arith, pasts_mono (line lines) (k + 1) (length lines) (omega arith)));
    }

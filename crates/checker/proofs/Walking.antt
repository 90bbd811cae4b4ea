-- Going over the rows of a run, from moment to moment.
use Rattle.std.proofs.Common.{◌≡◌, ℕ, zero, suc, ◌+◌, ◌<◌, ◌≤◌, Bool, true, false, cond, not, ◌&&◌, ◌||◌, ltb, leb, List, length, get_or, replicate, Decides, sym, refl, ap, ◌∙◌, subst, ap₂, inl, inr, ◌↔◌, true≢false, not-suc-le-zero, add-one, arith}
use mathlib.Core.Bool.{false≢true}
use native.Mathlib.Decide.{dec_lt}
use Rattle.std.proofs.lemmas.Bool.Decides.{nat_tests}
use Rattle.std.proofs.lemmas.Bool.{ltb-true, lt-ltb, leb-true, le-leb, and_parts, and_from, or_cases, or_left, or_right}
use Rattle.recording.specs.Kind.{Kind, TwoValued}
use Rattle.recording.specs.Tape.{bit}
use Rattle.recording.specs.Word.{Word, meant}
use Rattle.meaning.proofs.Build.{put, put_same, put_below}
use Rattle.machine.specs.declared.gate.Pair.{Pair}
use Rattle.machine.specs.declared.gate.Variable.{Variable}
use Rattle.machine.specs.declared.gate.Variable.TheVariants as variable
use Rattle.checker.specs.declared.moment.Moment.{Moment}
use Rattle.checker.specs.CheckAnswer.{Shape, Accepted}
use Rattle.laws.specs.Checks.{HasGateSignals, Evaluates, Comes, Passes}
use Rattle.checker.specs.Moments.{listed, MomentAt, gates_from, bits_from, is_met}
use Rattle.laws.specs.Runs.{Bits, Reads, Starts, Equation, Met, after, row_bits}
use Rattle.machine.specs.Tables.{Tables, Wired, gate_at, variable_at, pair_at, variable_fits, pair_fits}
use Rattle.laws.proofs.AsBits.{bits_of as as_bits}
use Rattle.laws.proofs.BitRuns.{gate_bit, bit_read}
use Rattle.laws.proofs.Checking.{check_decides}
use Rattle.laws.proofs.Endless.{after_in}
use Rattle.checker.proofs.Evaluating.{reads_moves, reads_one}

-- the gates have bits at every row
module _ (K : Kind) (only : TwoValued K) (m : Tables) (wired : Wired m) (word : Word K.Value) (rows : Bits) where
  -- those of the first k gates
  bits_to : ℕ → Bits
  bits_to zero = λ j t. false
  bits_to (suc k) = put (bits_to k) k (λ t. gate_bit (as_bits K only word) rows (bits_to k) (gate_at m.gates k) t)

  right_to : (k : ℕ) → k ≤ length m.gates → (j : ℕ) → j < k → (t : ℕ) → Reads K word rows (bits_to k) (gate_at m.gates j) t (bits_to k j t)
  unfolding bits_to
  right_to zero hk j h t = absurd (not-suc-le-zero h)
  right_to (suc k) hk j h t =
      elim (dec_lt j k) [
        | yes less ↦
            (subst (λ b. Reads K word rows (bits_to (suc k)) (gate_at m.gates j) t b) (sym (kept j less))
            (reads_moves K word rows rows (gate_at m.gates j) j (length m.variables) t (wired.gates j (omega arith)) (λ _. refl) (bits_to k) (bits_to (suc k))
            (λ a ha. sym (kept a (omega arith))) (bits_to k j t) (right_to k (omega arith) j less t)))
        | no more ↦
            (let e : j ≡ k = omega arith in
            subst (λ i. Reads K word rows (bits_to (suc k)) (gate_at m.gates i) t (bits_to (suc k) i t)) (sym e)
            (subst (λ b. Reads K word rows (bits_to (suc k)) (gate_at m.gates k) t b) (sym here)
            (reads_moves K word rows rows (gate_at m.gates k) k (length m.variables) t (wired.gates k hk) (λ _. refl) (bits_to k) (bits_to (suc k))
            (λ a ha. sym (kept a ha)) (gate_bit (as_bits K only word) rows (bits_to k) (gate_at m.gates k) t)
            (bit_read K only m word rows (bits_to k) (gate_at m.gates k) t (gate_bit (as_bits K only word) rows (bits_to k) (gate_at m.gates k) t) refl))))
      ]
    where
      kept : (a : ℕ) → a < k → bits_to (suc k) a t ≡ bits_to k a t
      kept a ha = ap (λ l. l t) (put_below (bits_to k) k (λ t. gate_bit (as_bits K only word) rows (bits_to k) (gate_at m.gates k) t) a ha)

      here : bits_to (suc k) k t ≡ gate_bit (as_bits K only word) rows (bits_to k) (gate_at m.gates k) t
      here = ap (λ l. l t) (put_same (bits_to k) k (λ t. gate_bit (as_bits K only word) rows (bits_to k) (gate_at m.gates k) t))

  pub evaluated : (n : ℕ) → (g : Bits) × Evaluates K m word n rows g
  evaluated n = (bits_to (length m.gates), λ j hj t _. right_to (length m.gates) (omega arith) j hj t)

-- the same gates' and variables' bits, the same equation and start
equation_moves : (g h : Bits) (n : ℕ) (q p : ℕ → Bool) (t u t' u' : ℕ) → ((a : ℕ) → a < n → g a t ≡ h a t') → ((a : ℕ) → a < n → g a u ≡ h a u') → q t ≡ p t' → q u ≡ p u'
    → (z : Variable) → variable_fits n z ≡ true → Equation g z q t u → Equation h z p t' u'
equation_moves g h n q p t u t' u' at_t at_u here next (variable.Next a) fit e = grind (arith, nat_tests)
equation_moves g h n q p t u t' u' at_t at_u here next (variable.Until a b) fit e = grind (arith, nat_tests)
equation_moves g h n q p t u t' u' at_t at_u here next (variable.Back a s) fit e = grind (arith, nat_tests)

starts_move : (q p : ℕ → Bool) → q 0 ≡ p 0 → (z : Variable) → Starts z q → Starts z p
starts_move q p same (variable.Next a) h = tt
starts_move q p same (variable.Until a b) h = tt
starts_move q p same (variable.Back a s) h = cc

-- the moments of rows are what the gates' bits say
module _ (K : Kind) (m : Tables) (wired : Wired m) (word : Word K.Value) (n : ℕ) (rows : List ℕ) (g : Bits) (ev : Evaluates K m word n (row_bits rows) g) where
  module _ (t : ℕ) (ht : t < n) (x : Moment) (shows : MomentAt K m.gates word rows t x) where
    agrees_to : (l j : ℕ) → j < l → j < length m.gates → g j t ≡ get_or x.values j false
    agrees_to zero j h hj = absurd (not-suc-le-zero h)
    agrees_to (suc l) j h hj =
        reads_one K word (row_bits rows) (gate_at m.gates j) t (listed x.values) (g j t) (get_or x.values j false)
        (reads_moves K word (row_bits rows) (row_bits rows) (gate_at m.gates j) j (length m.variables) t (wired.gates j hj) (λ _. refl) g (listed x.values)
        (λ a ha. agrees_to l a (omega arith) (omega arith)) (g j t) (ev j hj t ht))
        (shows.values j hj)

    pub agrees : (j : ℕ) → j < length m.gates → g j t ≡ get_or x.values j false
    agrees j hj = agrees_to (suc j) j (omega arith) hj

    row_is : (j : ℕ) → row_bits rows j t ≡ bit x.row j
    row_is j = ap (λ z. bit z j) (sym shows.row)

    pub met_same : (p : Pair) → pair_fits (length m.gates) p ≡ true → is_met p x ≡ (not (g p.from t) || g p.to t)
    met_same p fit =
        let q = and_parts (ltb p.from (length m.gates)) (ltb p.to (length m.gates)) fit in
        ap₂ (λ a b. not a || b) (sym (agrees p.from (ltb-true p.from (length m.gates) q.0))) (sym (agrees p.to (ltb-true p.to (length m.gates) q.1)))

  module _ (t u : ℕ) (ht : t < n) (hu : u < n) (x y : Moment) (here : MomentAt K m.gates word rows t x) (there : MomentAt K m.gates word rows u y) where
    pub equation_told : (z : Variable) (j : ℕ) → variable_fits (length m.gates) z ≡ true → Equation g z (row_bits rows j) t u → Equation (gates_from x y) z (bits_from x y j) 0 1
    equation_told z j fit =
        equation_moves g (gates_from x y) (length m.gates) (row_bits rows j) (bits_from x y j) t u 0 1 (agrees t ht x here) (agrees u hu y there)
        (row_is t ht x here j) (row_is u hu y there j) z fit

    pub equation_tells : (z : Variable) (j : ℕ) → variable_fits (length m.gates) z ≡ true → Equation (gates_from x y) z (bits_from x y j) 0 1 → Equation g z (row_bits rows j) t u
    equation_tells z j fit =
        equation_moves (gates_from x y) g (length m.gates) (bits_from x y j) (row_bits rows j) 0 1 t u (λ a h. sym (agrees t ht x here a h)) (λ a h. sym (agrees u hu y there a h))
        (sym (row_is t ht x here j)) (sym (row_is u hu y there j)) z fit

is_met_met : (a b : Bool) → ((not a || b) ≡ true) ↔ Met a b
is_met_met true b = (λ e. inr e, λ h. elim h [ inl e ↦ absurd (true≢false e) | inr e ↦ e ])
is_met_met false b = (λ _. inl refl, λ _. refl)

none_met : (n j : ℕ) → get_or (replicate n false) j false ≡ false
none_met zero j = refl
none_met (suc n) zero = refl
none_met (suc n) (suc j) = none_met n j

-- what is known of what is walked over
pub record Asked (K : Kind) (m : Tables) {V : Type 0} (means : V → K.Value) (w : Word V) (rows : List ℕ) (back : ℕ) : Type 0 where
  pub wired : Wired m
  pub named : HasGateSignals m.gates w.signals
  pub shape : Shape w (length rows) back

pub asked_by : (K : Kind) {m : Tables} {V : Type 0} (means : V → K.Value) {w : Word V} (rows : List ℕ) {back : ℕ} → Wired m → HasGateSignals m.gates w.signals
    → Shape w (length rows) back → Asked K m means w rows back
asked_by K means rows wired named shape = record { wired = wired; named = named; shape = shape }

-- what is known when i rows are gone over: `here` is the row that comes, the equations of the rows before are kept, and
-- `met` tells which pairs were met from row back on
pub record Walked (K : Kind) (m : Tables) (word : Word K.Value) (rows : List ℕ) (back i : ℕ) (here : Moment) (met : List Bool) : Type 0 where
  pub sized : length met ≡ 64
  pub shows : MomentAt K m.gates word rows (cond (ltb i (length rows)) i back) here
  pub equations : (g : Bits) → Evaluates K m word (length rows) (row_bits rows) g → (t : ℕ) → t < i
      → (j : ℕ) → j < length m.variables → Equation g (variable_at m.variables j) (row_bits rows j) t (after (length rows) back t)
  pub pairs : (g : Bits) → Evaluates K m word (length rows) (row_bits rows) g
      → (j : ℕ) → j < length m.pairs → Decides (get_or met j false) (Comes i back (g (pair_at m.pairs j).from) (g (pair_at m.pairs j).to))

module _ {K : Kind} {m : Tables} {V : Type 0} {means : V → K.Value} {w : Word V} {rows : List ℕ} {back : ℕ} (asked : Asked K m means w rows back) where
  abbrev word : Word K.Value
  word = meant means w

  abbrev n : ℕ
  n = length rows

  decides : Accepted K means m w rows back ↔ ((g : Bits) × Passes K m word n back 0 (row_bits rows) g)
  decides =
      check_decides K m asked.wired word asked.named n back (record { inside = asked.shape.turns.inside; stem = asked.shape.turns.stem; whole = asked.shape.turns.whole })
      (row_bits rows) 0

  -- the walk's begin
  module _ {first : Moment} (shows : MomentAt K m.gates word rows 0 first) where
    pub accepted_root : Accepted K means m w rows back → get_or first.values m.root false ≡ true
    accepted_root a =
        let pass = decides.0 a in sym (agrees K m asked.wired word n rows pass.0 pass.1.gates 0 asked.shape.some first shows m.root asked.wired.root) ∙ pass.1.root

    pub accepted_starts : Accepted K means m w rows back → (j : ℕ) → j < length m.variables → Starts (variable_at m.variables j) (bits_from first first j)
    accepted_starts a j hj =
        starts_move (row_bits rows j) (bits_from first first j) (ap (λ z. bit z j) (sym shows.row)) (variable_at m.variables j) ((decides.0 a).1.starts j hj)

    pub walked_none : Walked K m word rows back 0 first (replicate 64 false)
    walked_none =
        record {
          sized = refl;
          shows = subst (λ b. MomentAt K m.gates word rows (cond b 0 back) first) (sym (lt-ltb 0 n asked.shape.some)) shows;
          equations = λ g ev t h. absurd (not-suc-le-zero h);
          pairs = λ g ev j hj. (λ e. absurd (false≢true (sym (none_met 64 j) ∙ e)), λ come. absurd (not-suc-le-zero come.2));
        }

  -- a step of the walk: from row i to the row that comes next
  module _ {i next : ℕ} {here there : Moment} {met : List Bool} (hi : i < n) (walked : Walked K m word rows back i here met)
      (is : next ≡ after n back i) (shows : MomentAt K m.gates word rows next there) where
    inside : after n back i < n
    inside = after_in n back asked.shape.turns.inside i

    here_shows : MomentAt K m.gates word rows i here
    here_shows = subst (λ b. MomentAt K m.gates word rows (cond b i back) here) (lt-ltb i n hi) walked.shows

    there_shows : MomentAt K m.gates word rows (after n back i) there
    there_shows = subst (λ t. MomentAt K m.gates word rows t there) is shows

    -- the equations of the row at hand, as the code finds them
    abbrev Kept : Type 0
    Kept = (j : ℕ) → j < length m.variables → Equation (gates_from here there) (variable_at m.variables j) (bits_from here there j) 0 1

    pub accepted_kept : Accepted K means m w rows back → Kept
    accepted_kept a j hj =
        let pass = decides.0 a in
        equation_told K m asked.wired word n rows pass.0 pass.1.gates i (after n back i) hi inside here there here_shows there_shows (variable_at m.variables j) j
        (asked.wired.variables j hj) (pass.1.equations j hj i hi)

    pub walked_more : (met' : List Bool) → Kept → length met' ≡ 64
        → ((j : ℕ) → j < length m.pairs → get_or met' j false ≡ (get_or met j false || (leb back i && is_met (pair_at m.pairs j) here)))
        → Walked K m word rows back (i + 1) there met'
    walked_more met' kept sized noted =
        record {
          sized = sized;
          shows = subst (λ k. MomentAt K m.gates word rows (cond (ltb k n) k back) there) (sym (add-one i)) there_shows;
          equations = λ g ev t h j hj.
              elim (dec_lt t i) [
                | yes less ↦ walked.equations g ev t less j hj
                | no more ↦
                    (let e : t ≡ i = omega arith in
                    subst (λ s. Equation g (variable_at m.variables j) (row_bits rows j) s (after n back s)) (sym e)
                    (equation_tells K m asked.wired word n rows g ev i (after n back i) hi inside here there here_shows there_shows (variable_at m.variables j) j
                    (asked.wired.variables j hj) (kept j hj)))
              ];
          pairs = λ g ev j hj. (forth g ev j hj, back_again g ev j hj);
        }
      where
        -- the pair is met at the row at hand, as the code finds it
        met_here : (g : Bits) → Evaluates K m word n (row_bits rows) g → (j : ℕ) → j < length m.pairs
            → (is_met (pair_at m.pairs j) here ≡ true) ↔ Met (g (pair_at m.pairs j).from i) (g (pair_at m.pairs j).to i)
        met_here g ev j hj =
            subst (λ b. (b ≡ true) ↔ Met (g (pair_at m.pairs j).from i) (g (pair_at m.pairs j).to i))
            (sym (met_same K m asked.wired word n rows g ev i hi here here_shows (pair_at m.pairs j) (asked.wired.pairs j hj)))
            (is_met_met (g (pair_at m.pairs j).from i) (g (pair_at m.pairs j).to i))

        forth : (g : Bits) → Evaluates K m word n (row_bits rows) g → (j : ℕ) → j < length m.pairs
            → get_or met' j false ≡ true → Comes (i + 1) back (g (pair_at m.pairs j).from) (g (pair_at m.pairs j).to)
        forth g ev j hj e =
            elim (or_cases (get_or met j false) (leb back i && is_met (pair_at m.pairs j) here) (sym (noted j hj) ∙ e)) [
              | inl before ↦ (let come = (walked.pairs g ev j hj).0 before in (come.0, come.1, omega (arith, come.2), come.3))
              | inr now ↦
                  (let both = and_parts (leb back i) (is_met (pair_at m.pairs j) here) now in
                  (i, leb-true back i both.0, omega arith, (met_here g ev j hj).0 both.1))
            ]

        back_again : (g : Bits) → Evaluates K m word n (row_bits rows) g → (j : ℕ) → j < length m.pairs
            → Comes (i + 1) back (g (pair_at m.pairs j).from) (g (pair_at m.pairs j).to) → get_or met' j false ≡ true
        back_again g ev j hj come =
            noted j hj
            ∙ elim (dec_lt come.0 i) [
              | yes less ↦ or_left (get_or met j false) (leb back i && is_met (pair_at m.pairs j) here) ((walked.pairs g ev j hj).1 (come.0, come.1, less, come.3))
              | no more ↦
                  (let e : come.0 ≡ i = omega (arith, come.2) in
                  or_right (get_or met j false) (leb back i && is_met (pair_at m.pairs j) here)
                  (and_from (leb back i) (is_met (pair_at m.pairs j) here) (le-leb back i (omega (arith, come.1)))
                  ((met_here g ev j hj).1 (subst (λ s. Met (g (pair_at m.pairs j).from s) (g (pair_at m.pairs j).to s)) e come.3))))
            ]

  -- the walk's end
  module _ {i : ℕ} {here : Moment} {met : List Bool} (end : i ≡ n) (walked : Walked K m word rows back i here met) where
    all_walked : Walked K m word rows back n here met
    all_walked = subst (λ k. Walked K m word rows back k here met) end walked

    pub accepted_met : Accepted K means m w rows back → (j : ℕ) → j < length m.pairs → get_or met j false ≡ true
    accepted_met a j hj = let pass = decides.0 a in (all_walked.pairs pass.0 pass.1.gates j hj).1 (pass.1.fair j hj)

    pub all_accepted : {first : Moment} → MomentAt K m.gates word rows 0 first → TwoValued K → get_or first.values m.root false ≡ true
        → ((j : ℕ) → j < length m.variables → Starts (variable_at m.variables j) (bits_from first first j))
        → ((j : ℕ) → j < length m.pairs → get_or met j false ≡ true) → Accepted K means m w rows back
    all_accepted {first = first} shows only root starts fair =
        let e = evaluated K only m asked.wired word (row_bits rows) n in
        decides.1 (
          e.0,
          record {
            gates = e.1;
            starts = λ j hj. starts_move (bits_from first first j) (row_bits rows j) (ap (λ z. bit z j) shows.row) (variable_at m.variables j) (starts j hj);
            equations = λ j hj t ht. all_walked.equations e.0 e.1 t ht j hj;
            root = agrees K m asked.wired word n rows e.0 e.1 0 asked.shape.some first shows m.root asked.wired.root ∙ root;
            fair = λ j hj. (all_walked.pairs e.0 e.1 j hj).0 (fair j hj);
          },
        )

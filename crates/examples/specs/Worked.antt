-- Worked examples, from the meanings alone. crank is signal 0, oil signal 1.
use Rattle.std.specs.Prelude.{◌≡◌, Bool, true, false, List, [], ◌∷◌, ℕ, ◌≤◌, length}
use Rattle.std.proofs.Common.{lit≤}
use Rattle.recording.specs.Gapped.{gapped}
use Rattle.recording.specs.Kind.{Kind}
use Rattle.recording.specs.Kinds.{two, three}
use Rattle.recording.specs.Tape.{tape}
use Rattle.recording.specs.Wheel.{wheel}
use Rattle.recording.specs.Word.{Word}
use Rattle.recording.specs.declared.truth.Ternary.{Ternary}
use Rattle.recording.specs.declared.truth.Ternary.TheVariants.{Lost, Yes}
use Rattle.sheet.specs.declared.line.Line.{Line}
use Rattle.sheet.specs.declared.line.Line.TheVariants.{Signal, Not, And, Or, Next, Until, WeakUntil, Previous}
use Rattle.sheet.specs.Table.{HasSignals}
use Rattle.meaning.specs.Sheet.{Values}
use Rattle.meaning.specs.Verdict.{horizon}
use Rattle.machine.specs.declared.gate.Variable.TheVariants as variable
use Rattle.laws.specs.Laws.{TheValues, Fills}
use Rattle.machine.specs.Translation.{translate}

-- a sheet has its one valuation on a word, and with it P holds
abbrev pub On : (K : Kind) → Word K.Value → List Line → ((ℕ → Values K) → Type 0) → Type 0
On K word lines P = (f : ℕ → Values K) × TheValues K word lines f × P f

-- crank and oil, and these lines above them
abbrev pub with_both : List Line → List Line
with_both more = Signal 0 ∷ Signal 1 ∷ more

-- (crankUoil), (crankWoil)
abbrev pub until_rule : List Line
until_rule = with_both (Until 0 1 ∷ [])

abbrev pub weak_rule : List Line
weak_rule = with_both (WeakUntil 0 1 ∷ [])

-- u 1, v 2, masks 1, 2, 0; u 0, v 1, mask 1
abbrev pub first_tape : Word Bool
first_tape = tape 2 1 2 (1 ∷ 2 ∷ 0 ∷ []) (lit≤ tt, lit≤ tt, lit≤ tt, lit≤ tt, lit≤ tt)

abbrev pub second_tape : Word Bool
second_tape = tape 2 0 1 (1 ∷ []) (lit≤ tt, lit≤ tt, lit≤ tt, lit≤ tt, lit≤ tt)

-- u 0, v 1, with this mask and this lost mask
abbrev pub lost_tape : ℕ → ℕ → Word Ternary
lost_tape mask lost = gapped 2 0 1 (mask ∷ []) (lost ∷ []) (lit≤ tt, lit≤ tt, lit≤ tt, lit≤ tt, lit≤ tt)

-- !(crankWoil), !(crankUoil), X(crankWoil)
abbrev pub not_weak : List Line
not_weak = with_both (WeakUntil 0 1 ∷ Not 2 ∷ [])

abbrev pub not_until : List Line
not_until = with_both (Until 0 1 ∷ Not 2 ∷ [])

abbrev pub next_weak : List Line
next_weak = with_both (WeakUntil 0 1 ∷ Next 2 ∷ [])

-- crank, Y 0
abbrev pub previous_rule : List Line
previous_rule = Signal 0 ∷ Previous 0 ∷ []

-- (crank|!crank)
abbrev pub either_way : List Line
either_way = Signal 0 ∷ Signal 0 ∷ Not 1 ∷ Or 0 2 ∷ []

-- crank, oil, U 0 1, not 2, and 2 3
abbrev pub both_signs : List Line
both_signs = with_both (Until 0 1 ∷ Not 2 ∷ And 2 3 ∷ [])

-- teeth 60, gap 2, start 0
abbrev pub wheel_60 : Word Bool
wheel_60 = wheel 60 2 0 (lit≤ tt, lit≤ tt, lit≤ tt, lit≤ tt, lit≤ tt)

-- The list; K is any two-valued kind.
pub record WorkedExamples (K : Kind) : Type 0 where
  -- (crankUoil) on the first tape: yes; line 2 over N = 3 samples is yes, yes, no
  pub until_on_a_tape : (horizon until_rule first_tape ≡ 3) × On two first_tape until_rule (λ f. (f 2 0 ≡ true) × (f 2 1 ≡ true) × (f 2 2 ≡ false))
  -- on the second tape (crankUoil) is no, (crankWoil) is yes
  pub until_never : On two second_tape until_rule (λ f. f 2 0 ≡ false)
  pub weak_until_always : On two second_tape weak_rule (λ f. f 2 0 ≡ true)
  -- !(crankWoil) has one pair, from gate 0 to gate 2, and is no there
  pub not_weak_pair : (translate not_weak).pairs ≡ record { from = 0; to = 2 } ∷ []
  pub not_weak_is : On two second_tape not_weak (λ f. f 3 0 ≡ false)
  -- !(crankUoil) has no pair
  pub not_until_pair : (translate not_until).pairs ≡ []
  -- X(crankWoil): variables "until 0 1" and "next 2", root 3, no pair
  pub next_weak_variables : (translate next_weak).variables ≡ variable.Until 0 1 ∷ variable.Next 2 ∷ []
  pub next_weak_root : (translate next_weak).root ≡ 3
  pub next_weak_pair : (translate next_weak).pairs ≡ []
  -- lines crank, Y 0 on the second tape: N is 2; line 1 is no, then yes
  pub previous_on_a_tape : (horizon previous_rule second_tape ≡ 2) × On two second_tape previous_rule (λ f. (f 1 0 ≡ false) × (f 1 1 ≡ true))
  -- (crank|!crank) with crank lost is lost, though each filling says yes
  pub lost_either_way : On three (lost_tape 0 1) either_way (λ f. f 3 0 ≡ Lost)
  pub filled_either_way : (full : Word K.Value) → HasSignals either_way full.signals → Fills K either_way (lost_tape 0 1) full → On K full either_way (λ f. f 3 0 ≡ K.Yes)
  -- (crankUoil), crank lost and oil yes at 0: yes
  pub until_at_once : On three (lost_tape 2 1) until_rule (λ f. f 2 0 ≡ Yes)
  -- both signs: one variable, one pair, and no on every two-valued recording with both signals
  pub both_signs_variables : length (translate both_signs).variables ≡ 1
  pub both_signs_pairs : length (translate both_signs).pairs ≡ 1
  pub both_signs_never : (word : Word K.Value) → 2 ≤ word.signals → On K word both_signs (λ f. f 4 0 ≡ K.No)
  -- the wheel: signal 0 is yes at 57, no at 58 and 59, yes at 60
  pub wheel_turns : (wheel_60.at 0 57 ≡ true) × (wheel_60.at 0 58 ≡ false) × (wheel_60.at 0 59 ≡ false) × (wheel_60.at 0 60 ≡ true)

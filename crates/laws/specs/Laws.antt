-- The laws of the translation, of every sheet on every word that has its signals.
use Rattle.std.specs.Prelude.{◌≡◌, ℕ, ◌<◌, true, ◌↔◌, List, length}
use Rattle.recording.specs.Kind.{Kind, AtMost}
use Rattle.recording.specs.Kinds.{three}
use Rattle.recording.specs.Word.{Word}
use Rattle.recording.specs.declared.truth.Ternary.{Ternary}
use Rattle.recording.specs.declared.truth.Ternary.TheVariants.{No, Lost, Yes}
use Rattle.sheet.specs.declared.line.Line.{Line}
use Rattle.sheet.specs.declared.line.Line.TheVariants.{Const, Signal, Not, And, Or, Next, Until, WeakUntil, Previous, WeakPrevious, Since, WeakSince}
use Rattle.sheet.specs.Table.{line, Sheet, HasSignals}
use Rattle.meaning.specs.Sheet.{Values, Valuation, Holds, before, constant, rule_of}
use Rattle.meaning.specs.Verdict.{steady, horizon}
use Rattle.laws.specs.Checks.{HasGateSignals, Turns, Passes}
use Rattle.laws.specs.Runs.{Bits, Fair, IsRun, Runs, Accepts, HasAcceptingRun, endless}
use Rattle.machine.specs.Signs.{Sign, plus, minus, HasSign}
use Rattle.machine.specs.Tables.{Tables, Wired}
use Rattle.machine.specs.Translation.{used, memory, place, name, translate}

-- f are the values of the lines, and there are no others
pub record TheValues (K : Kind) (word : Word K.Value) (lines : List Line) (f : ℕ → Values K) : Type 0 where
  pub valuation : Valuation K word lines f
  pub only : (g : ℕ → Values K) → Valuation K word lines g → (k : ℕ) → k < length lines → (t : ℕ) → g k t ≡ f k t

-- on every word that has their signals the lines have their one valuation f, and with it P holds
abbrev pub OnWords : (K : Kind) → List Line → (Word K.Value → (ℕ → Values K) → Type 0) → Type 0
OnWords K lines P =
    (word : Word K.Value) → HasSignals lines word.signals → (f : ℕ → Values K) × TheValues K word lines f × P word f

-- so it is for the lines of every sheet
abbrev pub Always : (K : Kind) → (List Line → Word K.Value → (ℕ → Values K) → Type 0) → Type 0
Always K P = (lines : List Line) → Sheet lines → 0 < length lines → OnWords K lines (P lines)

-- the machine of the lines has an accepting run exactly when the rule holds at sample 0
abbrev pub Recognises : (K : Kind) → List Line → Word K.Value → (ℕ → Values K) → Type 0
Recognises K lines word f = HasAcceptingRun K (translate lines) word 0 ↔ Holds K f (rule_of lines) 0

-- The translation has an accepting run exactly when the rule holds at sample 0.
abbrev pub Exact : Kind → Type 0
Exact K = Always K (Recognises K)

-- the own gate of line k
abbrev pub own : List Line → ℕ → ℕ
own lines k = place (line lines) (length lines) (rule_of lines) k

-- the value p is at most q for plus, at least q for minus
abbrev pub Bounds : (K : Kind) → Sign → K.Value → K.Value → Type 0
Bounds K plus p q = AtMost K p q
Bounds K minus p q = AtMost K q p

-- In every fair run, and so in every accepting one, the gate of a line with plus is at most the line's value at every
-- position, that of a line with minus at least.
abbrev pub Between : Kind → Type 0
Between K =
    Always K
    (λ lines word f.
    (run g : Bits) → IsRun K (translate lines) word run g → Fair (translate lines) g
    → (k : ℕ) (s : Sign) → k < length lines → HasSign (line lines) (length lines) (rule_of lines) k s
    → (t : ℕ) → Bounds K s (constant K (g (own lines k) t)) (f k t))

-- what the variable of a line shows, by the line's values: the value at t, but for since and weak since the value one
-- sample before, and at 0 the start
abbrev pub shown : (K : Kind) → Line → Values K → Values K
shown K (Const b) y = y
shown K (Signal i) y = y
shown K (Not a) y = y
shown K (And a b) y = y
shown K (Or a b) y = y
shown K (Next a) y = y
shown K (Until a b) y = y
shown K (WeakUntil a b) y = y
shown K (Previous a) y = y
shown K (WeakPrevious a) y = y
shown K (Since a b) y = before K K.No y
shown K (WeakSince a b) y = before K K.Yes y

-- the first n rows show the values f of the used lines that have a variable
abbrev pub Shows : (K : Kind) → List Line → (ℕ → Values K) → ℕ → Bits → Type 0
Shows K lines f n rows =
    (k : ℕ) → k < length lines → used (line lines) (length lines) (rule_of lines) k ≡ true → memory (line lines k) ≡ 1
    → (t : ℕ) → t < n → (rows (name (line lines) (length lines) (rule_of lines) k) t ≡ true) ↔ (shown K (line lines k) (f k) t ≡ K.Yes)

-- the rows of the samples judged, with row `steady` after the last, as an endless run
abbrev pub written_out : {V : Type 0} → List Line → Word V → Bits → Bits
written_out lines word rows = endless (horizon lines word) (steady lines word) rows

-- there are rows that show the values of the samples judged, and each such, written out, is a run of the machine, and
-- accepting exactly when the rule holds at sample 0
abbrev pub RunsWritten : (K : Kind) → List Line → Word K.Value → (ℕ → Values K) → Type 0
RunsWritten K lines word f =
    ((rows : Bits) × Shows K lines f (horizon lines word) rows)
    × ((rows : Bits) → Shows K lines f (horizon lines word) rows
    → Runs K (translate lines) word (written_out lines word rows)
    × (Accepts K (translate lines) word 0 (written_out lines word rows) ↔ Holds K f (rule_of lines) 0))

-- The rows that show the values are a run, and accepting exactly when the rule holds at sample 0.
abbrev pub WrittenRun : Kind → Type 0
WrittenRun K = Always K (RunsWritten K)

-- Finitely many rows pass exactly when the endless run that they stand for is accepting.
abbrev pub CheckDecides : Kind → Type 0
CheckDecides K =
    (m : Tables) → Wired m → (word : Word K.Value) → HasGateSignals m.gates word.signals → (n back : ℕ) → Turns word n back → (rows : Bits)
    → Accepts K m word 0 (endless n back rows) ↔ ((g : Bits) × Passes K m word n back 0 rows g)

-- unless p is lost, q is the same
abbrev pub Settles : (B : Kind) → Ternary → B.Value → Type 0
Settles B No q = q ≡ B.No
Settles B Lost q = Unit {0}
Settles B Yes q = q ≡ B.Yes

-- `full` agrees with `gapped` on the signals that the lines name, wherever they are not lost
abbrev pub Fills : (B : Kind) → List Line → Word Ternary → Word B.Value → Type 0
Fills B lines gapped full = (k i : ℕ) → k < length lines → line lines k ≡ Signal i → (t : ℕ) → Settles B (gapped.at i t) (full.at i t)

-- where the values f of a three-valued word are yes or no for a line at a sample, so are those of every word that agrees
-- with it on the named signals wherever they are not lost, whatever its own signal count, stem and cycle
abbrev pub Settled : (B : Kind) → List Line → Word Ternary → (ℕ → Values three) → Type 0
Settled B lines gapped f =
    (full : Word B.Value) → HasSignals lines full.signals → Fills B lines gapped full
    → (g : ℕ → Values B) × TheValues B full lines g × ((k : ℕ) → k < length lines → (t : ℕ) → Settles B (f k t) (g k t))

-- What is said in spite of lost values stays as they are filled in.
abbrev pub Filling : Kind → Type 0
Filling B = Always three (Settled B)

-- What a call of a script on its sheet answers, and what it leaves of all that is lent: what the library's call does, with
-- the recording of the bench and the first so many cells and rows.
use Rattle.std.specs.Prelude.{◌≡◌, ℕ, Bool, List, [], ◌∷◌, ◌++◌, take, drop, Some, None, Option, vec_items}
use Rattle.std.specs.Vec.{with_items}
use Rattle.recording.specs.Kinds.{two, three}
use Rattle.recording.specs.Made.{tape_word, gapped_word, wheel_word}
use Rattle.recording.specs.Word.{Word}
use Rattle.recording.specs.declared.truth.Ternary.{Ternary}
use Rattle.sheet.specs.Ledger.{Ledger}
use Rattle.machine.specs.Tables.{Tables}
use Rattle.run.specs.declared.answer.Answer as reply
use Rattle.run.specs.Histories.{step}
use Rattle.run.specs.Law.{WhileSealed}
use Rattle.run.specs.Story.{Heard, Lent, lent, Tells}
use Rattle.asked.specs.declared.call.SheetCall.{SheetCall}
use Rattle.session.specs.declared.answer.Answer.{Answer}
use Rattle.session.specs.declared.answer.Answer.TheVariants as answer
use Rattle.session.specs.declared.bench.Bench.{Bench}
use Rattle.session.specs.declared.bench.Lending.{Lending}
use Rattle.session.specs.declared.bench.Recorded.{Recorded}
use Rattle.session.specs.declared.bench.Recorded.TheVariants as recorded
use Rattle.session.specs.Among.{raised}
use Rattle.session.specs.Replies.{made_as, filled_on, told}

module _ {V W : Type 0} where
  -- the first so many cells and rows, or all
  abbrev pub front : Lending → Lent V W → Lent V W
  front p s = lent s.machine (take p.cells s.cells) (take p.cells s.bits) (take p.rows s.rows)

  -- what was not lent comes after what a call leaves
  abbrev pub rejoined : Lending → Lent V W → Lent V W → Lent V W
  rejoined p s t =
      lent t.machine (t.cells ++ drop p.cells s.cells) (t.bits ++ drop p.cells s.bits) (t.rows ++ drop p.rows s.rows)

  -- on a sheet with the ledger l the call c answers a, and leads from s to t
  pub record Performs (h : Heard V) (b : Heard W) (among : V → Ternary) (raise : W → Ternary) (lacking : Answer) (p : Lending) (l : Ledger) (c : SheetCall) (a : Answer) (s t : Lent V W) : Type 0 where
    -- what the library's call answers and leaves
    pub reply : reply.Answer V W
    pub left : Lent V W
    pub tells : Tells h b l.form l (made_as c) reply (front p s) left
    pub leaves : t ≡ rejoined p s left
    pub answers : a ≡ told among raise c (filled_on l h.words) lacking reply
    -- the law, before and after
    pub before : WhileSealed h.kind b.kind l
    pub after : WhileSealed h.kind b.kind (step l (made_as c))

-- two-valued recordings, three-valued ones
abbrev pub flags_heard : List (Word Bool) → Heard Bool
flags_heard ws = record { kind = two; means = λ x. x; words = ws }

abbrev pub levels_heard : List (Word Ternary) → Heard Ternary
levels_heard ws = record { kind = three; means = λ x. x; words = ws }

-- the bench with these cells and rows in place of its own
abbrev pub with_flags : List Bool → List Bool → List ℕ → Bench → Bench
with_flags xs ys zs b =
    record { recorded = b.recorded; flags = with_items b.flags xs; levels = b.levels; bits = with_items b.bits ys; rows = with_items b.rows zs; lent = b.lent }

abbrev pub with_levels : List Ternary → List Bool → List ℕ → Bench → Bench
with_levels xs ys zs b =
    record { recorded = b.recorded; flags = b.flags; levels = with_items b.levels xs; bits = with_items b.bits ys; rows = with_items b.rows zs; lent = b.lent }

module _ (l : Ledger) (c : SheetCall) (a : Answer) (m m' : Tables) (before after : Bench) where
  -- with a two-valued recording, or none: judged with the flags
  pub record OnFlags (words : List (Word Bool)) : Type 0 where
    pub performs : Performs (flags_heard words) (flags_heard words) raised raised answer.NoRecording before.lent l c a (lent m (vec_items before.flags) (vec_items before.bits) (vec_items before.rows)) (lent m' (vec_items after.flags) (vec_items after.bits) (vec_items after.rows))
    pub levels : after.levels ≡ before.levels
    pub recorded : after.recorded ≡ before.recorded
    pub lends : after.lent ≡ before.lent
    -- and nothing else changes
    pub alone : after ≡ with_flags (vec_items after.flags) (vec_items after.bits) (vec_items after.rows) before

  -- with a three-valued recording: judged with the levels, and no run is written out
  pub record OnLevels (words : List (Word Ternary)) : Type 0 where
    pub performs : Performs (levels_heard words) (flags_heard []) (λ x. x) raised answer.NotTwoValued before.lent l c a (lent m (vec_items before.levels) (vec_items before.bits) (vec_items before.rows)) (lent m' (vec_items after.levels) (vec_items after.bits) (vec_items after.rows))
    pub flags : after.flags ≡ before.flags
    pub recorded : after.recorded ≡ before.recorded
    pub lends : after.lent ≡ before.lent
    -- and nothing else changes
    pub alone : after ≡ with_levels (vec_items after.levels) (vec_items after.bits) (vec_items after.rows) before

-- with the recording that there is
abbrev pub OnBench : Option Recorded → Ledger → SheetCall → Answer → Tables → Tables → Bench → Bench → Type 0
OnBench None l c a m m' before after = OnFlags l c a m m' before after []
OnBench (Some (recorded.Plain t)) l c a m m' before after = OnFlags l c a m m' before after (tape_word t ∷ [])
OnBench (Some (recorded.Gapped t)) l c a m m' before after = OnLevels l c a m m' before after (gapped_word t ∷ [])
OnBench (Some (recorded.Turning x)) l c a m m' before after = OnFlags l c a m m' before after (wheel_word x ∷ [])

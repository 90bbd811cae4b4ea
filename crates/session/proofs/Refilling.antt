-- Calls with what vectors hold.
use Rattle.std.proofs.Common.{◌≡◌, ℕ, Bool, List, [], length, Option, vec_items, vec_len, Vec, sym, refl, ◌∙◌, subst}
use Rattle.std.specs.Vec.{with_items}
use Rattle.std.specs.declared.alloc.Global.{Global}
use Rattle.std.proofs.lemmas.List.{with_items_is}
use Rattle.recording.specs.Word.{Word}
use Rattle.recording.specs.declared.truth.Ternary.{Ternary}
use Rattle.sheet.specs.Ledger.{Ledger}
use Rattle.machine.specs.Tables.{Tables}
use Rattle.run.specs.Story.{Heard, Lent, lent}
use Rattle.asked.specs.declared.call.SheetCall.{SheetCall}
use Rattle.session.specs.declared.answer.Answer.{Answer}
use Rattle.session.specs.declared.answer.Answer.TheVariants as answer
use Rattle.session.specs.declared.bench.Bench.{Bench}
use Rattle.session.specs.declared.bench.Lending.{Lending}
use Rattle.session.specs.declared.bench.Recorded.{Recorded}
use Rattle.session.specs.Among.{raised}
use Rattle.session.specs.Performing.{Performs, OnBench, OnFlags, OnLevels, flags_heard, levels_heard, with_flags, with_levels}

-- a slice of all that a vector holds, and what it holds at the end
pub record Held {X : Type 0} (v : Vec X Global) (before after : List X) : Type 0 where
  pub was : before ≡ vec_items v
  pub size : length after ≡ vec_len v

pub performs_in : {V W : Type 0} (h : Heard V) (b : Heard W) (among : V → Ternary) (raise : W → Ternary) (lacking : Answer) (p : Lending) (l : Ledger) (c : SheetCall) (a : Answer) (m m' : Tables)
    (cells : Vec V Global) (bits : Vec W Global) (rows : Vec ℕ Global) (xs xs' : List V) (ys ys' : List W) (zs zs' : List ℕ)
    → Held cells xs xs' → Held bits ys ys' → Held rows zs zs' → Performs h b among raise lacking p l c a (lent m xs ys zs) (lent m' xs' ys' zs')
    → Performs h b among raise lacking p l c a (lent m (vec_items cells) (vec_items bits) (vec_items rows)) (lent m' (vec_items (with_items cells xs')) (vec_items (with_items bits ys')) (vec_items (with_items rows zs')))
performs_in {V} {W} h b among raise lacking p l c a m m' cells bits rows xs xs' ys ys' zs zs' one two three =
    subst (λ (q : Lent V W × Lent V W). Performs h b among raise lacking p l c a q.0 q.1)
    (λ i. (lent m (one.was i) (two.was i) (three.was i), lent m' (sym (with_items_is cells xs' one.size) i) (sym (with_items_is bits ys' two.size) i) (sym (with_items_is rows zs' three.size) i)))

module _ (l : Ledger) (c : SheetCall) (a : Answer) (m m' : Tables) (b : Bench) where
  pub on_flags : (words : List (Word Bool)) (xs xs' ys ys' : List Bool) (zs zs' : List ℕ) → Held b.flags xs xs' → Held b.bits ys ys' → Held b.rows zs zs'
      → Performs (flags_heard words) (flags_heard words) raised raised answer.NoRecording b.lent l c a (lent m xs ys zs) (lent m' xs' ys' zs')
      → OnFlags l c a m m' b (with_flags xs' ys' zs' b) words
  on_flags words xs xs' ys ys' zs zs' one two three performs =
      record {
        performs = performs_in (flags_heard words) (flags_heard words) raised raised answer.NoRecording b.lent l c a m m' b.flags b.bits b.rows xs xs' ys ys' zs zs' one two three performs;
        levels = refl;
        recorded = refl;
        lends = refl;
        alone = λ i. with_flags (sym (with_items_is b.flags xs' one.size) i) (sym (with_items_is b.bits ys' two.size) i) (sym (with_items_is b.rows zs' three.size) i) b;
      }

  pub on_levels : (words : List (Word Ternary)) (xs xs' : List Ternary) (ys ys' : List Bool) (zs zs' : List ℕ) → Held b.levels xs xs' → Held b.bits ys ys' → Held b.rows zs zs'
      → Performs (levels_heard words) (flags_heard []) (λ x. x) raised answer.NotTwoValued b.lent l c a (lent m xs ys zs) (lent m' xs' ys' zs')
      → OnLevels l c a m m' b (with_levels xs' ys' zs' b) words
  on_levels words xs xs' ys ys' zs zs' one two three performs =
      record {
        performs = performs_in (levels_heard words) (flags_heard []) (λ x. x) raised answer.NotTwoValued b.lent l c a m m' b.levels b.bits b.rows xs xs' ys ys' zs zs' one two three performs;
        flags = refl;
        recorded = refl;
        lends = refl;
        alone = λ i. with_levels (sym (with_items_is b.levels xs' one.size) i) (sym (with_items_is b.bits ys' two.size) i) (sym (with_items_is b.rows zs' three.size) i) b;
      }

  -- the same where the recording of the bench is o, and is named r at the end
  module _ (o r : Option Recorded) (is : b.recorded ≡ o) (stays : r ≡ o) (ys ys' : List Bool) (zs zs' : List ℕ) (bits : Held b.bits ys ys') (rows : Held b.rows zs zs') where
    pub bench_flags : (words ws : List (Word Bool)) (xs xs' : List Bool) → ws ≡ words → Held b.flags xs xs' → ((after : Bench) → OnFlags l c a m m' b after words → OnBench o l c a m m' b after)
        → Performs (flags_heard ws) (flags_heard ws) raised raised answer.NoRecording b.lent l c a (lent m xs ys zs) (lent m' xs' ys' zs')
        → OnBench b.recorded l c a m m' b (record { recorded = r; flags = with_items b.flags xs'; levels = b.levels; bits = with_items b.bits ys'; rows = with_items b.rows zs'; lent = b.lent })
    bench_flags words ws xs xs' same flags on performs =
        subst (λ (p : Option Recorded × Option Recorded). OnBench p.0 l c a m m' b (record { recorded = p.1; flags = with_items b.flags xs'; levels = b.levels; bits = with_items b.bits ys'; rows = with_items b.rows zs'; lent = b.lent }))
        (λ i. (sym is i, (is ∙ sym stays) i))
        (on (with_flags xs' ys' zs' b) (on_flags words xs xs' ys ys' zs zs' flags bits rows (subst (λ us. Performs (flags_heard us) (flags_heard us) raised raised answer.NoRecording b.lent l c a (lent m xs ys zs) (lent m' xs' ys' zs')) same performs)))

    pub bench_levels : (words : List (Word Ternary)) (xs xs' : List Ternary) → Held b.levels xs xs' → ((after : Bench) → OnLevels l c a m m' b after words → OnBench o l c a m m' b after)
        → Performs (levels_heard words) (flags_heard []) (λ x. x) raised answer.NotTwoValued b.lent l c a (lent m xs ys zs) (lent m' xs' ys' zs')
        → OnBench b.recorded l c a m m' b (record { recorded = r; flags = b.flags; levels = with_items b.levels xs'; bits = with_items b.bits ys'; rows = with_items b.rows zs'; lent = b.lent })
    bench_levels words xs xs' levels on performs =
        subst (λ (p : Option Recorded × Option Recorded). OnBench p.0 l c a m m' b (record { recorded = p.1; flags = b.flags; levels = with_items b.levels xs'; bits = with_items b.bits ys'; rows = with_items b.rows zs'; lent = b.lent }))
        (λ i. (sym is i, (is ∙ sym stays) i))
        (on (with_levels xs' ys' zs' b) (on_levels words xs xs' ys ys' zs zs' levels bits rows performs))

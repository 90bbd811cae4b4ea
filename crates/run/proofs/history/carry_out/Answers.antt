use Rattle.std.proofs.Common.{◌≡◌, ◌+◌, ◌<◌, ◌≤◌, List, length, take, sym, refl, ap, ◌∙◌, arith}
use Rattle.std.proofs.lemmas.List.{set-get_or}
use Rattle.run.specs.declared.call.Call.{Call}
use Rattle.run.specs.Histories.{ledger_of, after}
use Rattle.run.proofs.Going.{after_none, ledger_more, story_more, story_as, law_none, law_more, law_all, take_room, drop_room, drop_more}
use Rattle.run.proofs.Keeping.{sheet_law}
use Rattle.run.proofs.history.carry_out.Goals as goal

pub loop-i-init : goal.loop-i-init
loop-i-init g c = (
  omega arith,
  sym (after_none (ledger_of c.args.sheet)),
  refl,
  refl,
  law_none _ _ (ledger_of c.args.sheet) c.args.calls.now (sheet_law _ _ c.is_yes.ensures.two c.args.sheet),
)

pub loop-i-preserved : goal.loop-i-preserved
loop-i-preserved g c =
    let l = ledger_of c.args.sheet in
    let calls : List Call = c.args.calls.now in
    let i = c.loop-i.i in
    let found = c.in-Some.ensures.lookup in
    let here : i < length calls = found.3.0 in
    let room : i < length c.loop-i.answers = omega arith in
    let so_far = c.loop-i.invariant in
    let e : ledger_of c.perform-stepped.result.sheet ≡ after l (take (i + 1) calls) =
    ledger_more l calls i c.in-Some.call.now (ledger_of c.loop-i.sheet) (ledger_of c.perform-stepped.result.sheet) here found.1 so_far.1 c.perform-stepped.ensures.ledger in (
      omega arith,
      e,
      story_more _ _ l _ _ _ calls c.loop-i.answers i c.in-Some.call.now c.perform-stepped.result.answer (ledger_of c.loop-i.sheet)
          here found.1 room so_far.1 so_far.2 c.perform-stepped.ensures.tells,
      drop_more c.args.answers.now c.loop-i.answers i c.perform-stepped.result.answer so_far.3,
      law_more _ _ l calls i (ledger_of c.perform-stepped.result.sheet) e c.perform-stepped.ensures.after so_far.4,
    )

-- the answers are used up
pub returns-after-loop-i : goal.returns-after-loop-i
returns-after-loop-i g c =
    let l = ledger_of c.args.sheet in
    let calls : List Call = c.args.calls.now in
    let so_far = c.loop-i.invariant in
    let made : take (length c.args.answers.now) calls ≡ take c.loop-i.i calls =
    take_room calls (length c.args.answers.now) c.loop-i.i (omega arith) so_far.0 (λ h. omega arith) in
    record {
      ledger = so_far.1 ∙ ap (after l) (sym made);
      story = story_as _ _ _ _ _ _ _ _ _ made (take_room c.loop-i.answers (length calls) c.loop-i.i so_far.0 (omega arith) (λ h. omega arith)) so_far.2;
      law = law_all _ _ l calls _ c.loop-i.i so_far.0 made so_far.4;
      further = drop_room c.args.answers.now c.loop-i.answers (length calls) c.loop-i.i (omega arith) so_far.0 (λ h. omega arith) so_far.3;
    }

-- the calls are used up
pub returns-in_default : goal.returns-in_default
returns-in_default g c =
    let l = ledger_of c.args.sheet in
    let calls : List Call = c.args.calls.now in
    let so_far = c.loop-i.invariant in
    let all : length calls ≤ c.loop-i.i = c.in_default.ensures.lookup.3 in
    let made : take (length c.args.answers.now) calls ≡ take c.loop-i.i calls =
    take_room calls (length c.args.answers.now) c.loop-i.i (omega arith) so_far.0 (λ h. all) in
    let same = set-get_or c.loop-i.answers c.loop-i.i c.index-answers-i.result in
    record {
      ledger = so_far.1 ∙ ap (after l) (sym made);
      story = rw same (story_as _ _ _ _ _ _ _ _ _ made (take_room c.loop-i.answers (length calls) c.loop-i.i so_far.0 (omega arith) (λ h. omega arith)) so_far.2);
      law = law_all _ _ l calls _ c.loop-i.i so_far.0 made so_far.4;
      further = rw same (drop_room c.args.answers.now c.loop-i.answers (length calls) c.loop-i.i (omega arith) so_far.0 (λ h. omega arith) so_far.3);
    }

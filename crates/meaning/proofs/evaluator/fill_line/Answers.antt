use Rattle.std.proofs.Common.{rules, ◌≡◌, suc, ◌-◌, get_or, ap, ◌∙◌, ap₂}
use Rattle.recording.specs.Word.{meant}
use Rattle.meaning.specs.Sheet.{before}
use Rattle.meaning.specs.Cells.{column}
use Rattle.meaning.specs.Columns.{carried, passes}
use Rattle.meaning.proofs.Filling.{filled_as, row_column}
use Rattle.meaning.proofs.Rows.{as_line}
use Rattle.meaning.proofs.evaluator.fill_line.Goals as goal

pub returns-in-Const : goal.returns-in-Const
returns-in-Const g c =
    as_line g.R.Truth.Truth.kind (meant g.R.Truth.Truth.means (g.R.Recording.word c.args.recording.now)) (c.args.grid.samples - c.args.grid.cycle) c.args.grid.samples
    c.in-Const.is (c.fill.ensures _ (λ d row t r is below post. search rules))

pub returns-in-Signal : goal.returns-in-Signal
returns-in-Signal g c =
    as_line g.R.Truth.Truth.kind (meant g.R.Truth.Truth.means (g.R.Recording.word c.args.recording.now)) (c.args.grid.samples - c.args.grid.cycle) c.args.grid.samples
    c.in-Signal.is (c.fill-in-Signal.ensures _ (λ d row t r is below post. search rules))

pub returns-in-Not : goal.returns-in-Not
returns-in-Not g c =
    let K = g.R.Truth.Truth in
    let lower = rw c.in-Not.is at c.requires.lower in
    as_line g.R.Truth.Truth.kind (meant g.R.Truth.Truth.means (g.R.Recording.word c.args.recording.now)) (c.args.grid.samples - c.args.grid.cycle) c.args.grid.samples
    c.in-Not.is
    (c.fill-in-Not.ensures _ (λ d row t r is below post.
    let read : (x : g.row.R-Truth.Denot) × (x ≡ get_or row.now c.in-Not.a x) × (K.means r ≡ K.kind.Not (K.means x)) = search rules in
    read.2 ∙ ap K.kind.Not (row_column K.means is c.in-Not.a lower read.0 read.1 d)))

pub returns-in-And : goal.returns-in-And
returns-in-And g c =
    let K = g.R.Truth.Truth in
    let lower = rw c.in-And.is at c.requires.lower in
    as_line g.R.Truth.Truth.kind (meant g.R.Truth.Truth.means (g.R.Recording.word c.args.recording.now)) (c.args.grid.samples - c.args.grid.cycle) c.args.grid.samples
    c.in-And.is
    (c.fill-in-And.ensures _ (λ d row t r is below post.
    let read : (l x : g.row.R-Truth.Denot) × (l ≡ get_or row.now c.in-And.a l) × (x ≡ get_or row.now c.in-And.b x) × (K.means r ≡ K.kind.And (K.means l) (K.means x)) = search rules in
    read.4 ∙ ap₂ K.kind.And (row_column K.means is c.in-And.a lower.0 read.0 read.2 d) (row_column K.means is c.in-And.b lower.1 read.1 read.3 d)))

pub returns-in-Or : goal.returns-in-Or
returns-in-Or g c =
    let K = g.R.Truth.Truth in
    let lower = rw c.in-Or.is at c.requires.lower in
    as_line g.R.Truth.Truth.kind (meant g.R.Truth.Truth.means (g.R.Recording.word c.args.recording.now)) (c.args.grid.samples - c.args.grid.cycle) c.args.grid.samples
    c.in-Or.is
    (c.fill-in-Or.ensures _ (λ d row t r is below post.
    let read : (l x : g.row.R-Truth.Denot) × (l ≡ get_or row.now c.in-Or.a l) × (x ≡ get_or row.now c.in-Or.b x) × (K.means r ≡ K.kind.Or (K.means l) (K.means x)) = search rules in
    read.4 ∙ ap₂ K.kind.Or (row_column K.means is c.in-Or.a lower.0 read.0 read.2 d) (row_column K.means is c.in-Or.b lower.1 read.1 read.3 d)))

pub returns-in-Next : goal.returns-in-Next
returns-in-Next g c =
    as_line g.R.Truth.Truth.kind (meant g.R.Truth.Truth.means (g.R.Recording.word c.args.recording.now)) (c.args.grid.samples - c.args.grid.cycle) c.args.grid.samples
    c.in-Next.is c.fill_next.ensures

pub returns-in-Until : goal.returns-in-Until
returns-in-Until g c =
    let left = λ (d : g.row.R-Truth.Denot). column g.R.Truth.Truth.means c.args.cells.now c.args.grid.width c.in-Until.a d in
    let right = λ (d : g.row.R-Truth.Denot). column g.R.Truth.Truth.means c.args.cells.now c.args.grid.width c.in-Until.b d in
    as_line g.R.Truth.Truth.kind (meant g.R.Truth.Truth.means (g.R.Recording.word c.args.recording.now)) (c.args.grid.samples - c.args.grid.cycle) c.args.grid.samples
    c.in-Until.is (filled_as (λ d t _ _. ap (λ z. passes g.R.Truth.Truth.kind (left d) (right d) (c.args.grid.samples - c.args.grid.cycle) c.args.grid.samples z t) c.no-no.ensures) c.fill_until.ensures)

pub returns-in-WeakUntil : goal.returns-in-WeakUntil
returns-in-WeakUntil g c =
    let left = λ (d : g.row.R-Truth.Denot). column g.R.Truth.Truth.means c.args.cells.now c.args.grid.width c.in-WeakUntil.a d in
    let right = λ (d : g.row.R-Truth.Denot). column g.R.Truth.Truth.means c.args.cells.now c.args.grid.width c.in-WeakUntil.b d in
    as_line g.R.Truth.Truth.kind (meant g.R.Truth.Truth.means (g.R.Recording.word c.args.recording.now)) (c.args.grid.samples - c.args.grid.cycle) c.args.grid.samples
    c.in-WeakUntil.is (filled_as (λ d t _ _. ap (λ z. passes g.R.Truth.Truth.kind (left d) (right d) (c.args.grid.samples - c.args.grid.cycle) c.args.grid.samples z t) c.yes-yes.ensures) c.fill_until-in-WeakUntil.ensures)

pub returns-in-Previous : goal.returns-in-Previous
returns-in-Previous g c =
    let left = λ (d : g.row.R-Truth.Denot). column g.R.Truth.Truth.means c.args.cells.now c.args.grid.width c.in-Previous.a d in
    as_line g.R.Truth.Truth.kind (meant g.R.Truth.Truth.means (g.R.Recording.word c.args.recording.now)) (c.args.grid.samples - c.args.grid.cycle) c.args.grid.samples
    c.in-Previous.is (filled_as (λ d t _ _. ap (λ z. before g.R.Truth.Truth.kind z (left d) t) c.no-no.ensures) c.fill_previous.ensures)

pub returns-in-WeakPrevious : goal.returns-in-WeakPrevious
returns-in-WeakPrevious g c =
    let left = λ (d : g.row.R-Truth.Denot). column g.R.Truth.Truth.means c.args.cells.now c.args.grid.width c.in-WeakPrevious.a d in
    as_line g.R.Truth.Truth.kind (meant g.R.Truth.Truth.means (g.R.Recording.word c.args.recording.now)) (c.args.grid.samples - c.args.grid.cycle) c.args.grid.samples
    c.in-WeakPrevious.is (filled_as (λ d t _ _. ap (λ z. before g.R.Truth.Truth.kind z (left d) t) c.yes-yes.ensures) c.fill_previous-in-WeakPrevious.ensures)

pub returns-in-Since : goal.returns-in-Since
returns-in-Since g c =
    let left = λ (d : g.row.R-Truth.Denot). column g.R.Truth.Truth.means c.args.cells.now c.args.grid.width c.in-Since.a d in
    let right = λ (d : g.row.R-Truth.Denot). column g.R.Truth.Truth.means c.args.cells.now c.args.grid.width c.in-Since.b d in
    as_line g.R.Truth.Truth.kind (meant g.R.Truth.Truth.means (g.R.Recording.word c.args.recording.now)) (c.args.grid.samples - c.args.grid.cycle) c.args.grid.samples
    c.in-Since.is (filled_as (λ d t _ _. ap (λ z. carried g.R.Truth.Truth.kind (left d) (right d) z (suc t)) c.no-no.ensures) c.fill_since.ensures)

pub returns-in-WeakSince : goal.returns-in-WeakSince
returns-in-WeakSince g c =
    let left = λ (d : g.row.R-Truth.Denot). column g.R.Truth.Truth.means c.args.cells.now c.args.grid.width c.in-WeakSince.a d in
    let right = λ (d : g.row.R-Truth.Denot). column g.R.Truth.Truth.means c.args.cells.now c.args.grid.width c.in-WeakSince.b d in
    as_line g.R.Truth.Truth.kind (meant g.R.Truth.Truth.means (g.R.Recording.word c.args.recording.now)) (c.args.grid.samples - c.args.grid.cycle) c.args.grid.samples
    c.in-WeakSince.is (filled_as (λ d t _ _. ap (λ z. carried g.R.Truth.Truth.kind (left d) (right d) z (suc t)) c.yes-yes.ensures) c.fill_since-in-WeakSince.ensures)

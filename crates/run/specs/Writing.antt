-- What writing out a run answers, and what it leaves in the cells and the rows.
use Rattle.std.specs.Prelude.{◌≡◌, ℕ, ◌*◌, ◌<◌, ◌≤◌, ◌↔◌, List, length, take, Ok, Err, Result, slice_index}
use Rattle.recording.specs.Kind.{Kind}
use Rattle.recording.specs.Tape.{Within}
use Rattle.recording.specs.Word.{Word, meant}
use Rattle.sheet.specs.declared.line.Line.{Line}
use Rattle.sheet.specs.Table.{HasSignals}
use Rattle.meaning.specs.Sheet.{rule_of}
use Rattle.meaning.specs.Verdict.{steady, horizon, Filled, Verdict}
use Rattle.laws.specs.Laws.{Shows, written_out}
use Rattle.laws.specs.Runs.{Runs, Accepts, row_bits}
use Rattle.machine.specs.Translation.{translate}
use Rattle.run.specs.declared.refusal.WriteRefusal.{WriteRefusal}
use Rattle.run.specs.declared.refusal.WriteRefusal.TheVariants.{NotJudged, TooFewRows}
use Rattle.run.specs.declared.writing.Written.{Written}

-- cells before and after, rows before and after
module _ (K : Kind) {V : Type 0} (means : V → K.Value) (lines : List Line) (w : Word V) (before after : List V) (rows rows' : List ℕ) where
  pub record WrittenOut (answer : Written V) : Type 0 where
    -- the sheet is judged
    pub filled : Filled K means lines w (rule_of lines) 0 before after answer.verdict
    pub room : horizon lines w ≤ length rows
    -- so many rows, and after the last comes row `back`
    pub count : answer.rows ≡ horizon lines w
    pub back : answer.back ≡ steady lines w
    -- bit j of row t is what variable j shows at sample t; other bits are 0; further rows stay
    pub shows : Shows K lines filled.f (horizon lines w) (row_bits rows')
    pub others : Within (length (translate lines).variables) (take (horizon lines w) rows')
    pub further : (t : ℕ) → horizon lines w ≤ t → slice_index rows' t ≡ slice_index rows t
    pub as_long : length rows' ≡ length rows
    -- endlessly read they are a run of the machine of the lines, accepting exactly when the verdict is yes
    pub is_run : Runs K (translate lines) (meant means w) (written_out lines w (row_bits rows'))
    pub accepting : Accepts K (translate lines) (meant means w) 0 (written_out lines w (row_bits rows')) ↔ (means answer.verdict ≡ K.Yes)

  -- missing rows are told last; each refusal leaves the cells and the rows as they were
  abbrev pub WritesOut : Result (Written V) WriteRefusal → Type 0
  WritesOut (Ok answer) = WrittenOut answer
  WritesOut (Err (NotJudged e)) = Verdict K means lines w (rule_of lines) 0 before after (Err e) × (rows' ≡ rows)
  WritesOut (Err TooFewRows) =
      HasSignals lines w.signals × (length lines * horizon lines w ≤ length before) × (length rows < horizon lines w)
      × (after ≡ before) × (rows' ≡ rows)

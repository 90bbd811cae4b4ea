-- What a bench file says is what is reported of.
use Rattle.std.proofs.Common.{◌≡◌, ℕ, ◌+◌, ◌<◌, ◌≤◌, List, [], ◌∷◌, length, get_or, take, Ok, Err, sym, refl, ap, ◌∙◌, arith, take_all}
use mathlib.Core.Path.{transport}
use Rattle.std.proofs.lemmas.List.{length-take-le, get_or-take}
use Rattle.recording.specs.Gapped.{gapped}
use Rattle.recording.specs.Made.{gapped_word}
use Rattle.recording.specs.Tape.{Fits}
use Rattle.recording.specs.declared.gapped.GappedTape.{GappedTape}
use Rattle.sheet.specs.declared.line.Line.{Line}
use Rattle.lexer.specs.Names.{known, names_of, spaced}
use Rattle.text.specs.Reading.{Fitting}
use Rattle.text.specs.Rules.{Rule, written}
use Rattle.bench_file.specs.declared.file.BenchFile.{BenchFile}
use Rattle.bench_file.specs.declared.outcome.Report.{Report}
use Rattle.meaning.specs.declared.refusal.Refusal.{Refusal}
use Rattle.bench_file.specs.declared.outcome.ReportRefusal.TheVariants.{Judging}
use Rattle.bench_file.specs.Files.{lines, line, samples, signals, InForm, Says}
use Rattle.bench_file.specs.Lines.{IsNumeral, value, stem_of, cycle_of}
use Rattle.bench_file.specs.Reporting.{FitsFile, Taped, Told}
use Rattle.bench_file.specs.Reports.{Sampled, FitsTape, Recorded, word, names, Unjudged, Judged, Reports, unjudged, judged}

value_small : (ds : List ℕ) → IsNumeral ds → value ds ≤ 999
value_small [] h = absurd (omega (arith, h.some))
value_small (a ∷ []) h = omega (arith, h.digits 0 (omega arith))
value_small (a ∷ b ∷ []) h = omega (arith, h.digits 0 (omega arith), h.digits 1 (omega arith))
value_small (a ∷ b ∷ c ∷ []) h = omega (arith, h.digits 0 (omega arith), h.digits 1 (omega arith), h.digits 2 (omega arith))
value_small (a ∷ b ∷ c ∷ d ∷ ds) h = absurd (omega (arith, h.few))

module _ (bytes : List ℕ) (f : BenchFile) (form : InForm bytes) (says : Says bytes f) where
  abbrev ls : List (List ℕ)
  ls = lines bytes

  pub known_is : known f.names ≡ names bytes
  known_is = ap names_of says.names

  count_is : length (known f.names) ≡ signals ls
  count_is = ap length known_is ∙ ap length (take_all 32 (spaced (line ls 2)) form.named.few)

  samples_is : f.stem + f.cycle ≡ samples ls
  samples_is = λ i. says.stem i + says.cycle i

  pub small : (f.stem ≤ 999) × (f.cycle ≤ 999)
  small =
      let h = (form.right 1 (omega arith)).header refl in
      (omega (arith, says.stem, value_small _ h.stem), omega (arith, says.cycle, value_small _ h.cycle))

  abbrev front : List ℕ → List ℕ
  front m = take (f.stem + f.cycle) m

  front_long : (m : List ℕ) → length m ≡ 1998 → length (front m) ≡ samples ls
  front_long m e = length-take-le (f.stem + f.cycle) m (omega (arith, small)) ∙ samples_is

  front_at : (m : List ℕ) (t : ℕ) → t < samples ls → get_or (front m) t 0 ≡ get_or m t 0
  front_at m t h = get_or-take (f.stem + f.cycle) m t 0 (omega (arith, samples_is))

  pub sampled : Sampled ls (front f.masks) (front f.lost)
  sampled =
      record {
        as_many = front_long f.masks says.size.0;
        lost_as_many = front_long f.lost says.size.1;
        mask = λ t h. front_at f.masks t h ∙ says.masks t h;
        lost_mask = λ t h. front_at f.lost t h ∙ says.lost t h;
      }

  back : (m : List ℕ) → FitsTape ls (front m) → FitsFile f m
  back m h = transport (λ i. Fits (sym count_is i) (sym says.stem i) (sym says.cycle i) (front m)) h

  pub not_taped : (FitsFile f f.masks → FitsFile f f.lost → ⊥) → FitsTape ls (front f.masks) → FitsTape ls (front f.lost) → ⊥
  not_taped h a b = h (back f.masks a) (back f.lost b)

  abbrev Moved : GappedTape → ℕ → ℕ → ℕ → Type 0
  Moved t c u v =
      (fits : Fits c u v (front f.masks)) × Fits c u v (front f.lost) × (gapped_word t ≡ gapped c u v (front f.masks) (front f.lost) fits.sizes)

  moved : (t : GappedTape) → Taped f (Ok t) → Moved t (signals ls) (stem_of (line ls 1)) (cycle_of (line ls 1))
  moved t h = transport (λ i. Moved t (count_is i) (says.stem i) (says.cycle i)) h

  pub recorded : (t : GappedTape) → Taped f (Ok t) → Recorded bytes
  recorded t h =
      record {
        in_form = form;
        masks = front f.masks;
        lost = front f.lost;
        sampled = sampled;
        fits = (moved t h).0;
        lost_fits = (moved t h).1;
      }

  pub word_is : (t : GappedTape) (h : Taped f (Ok t)) → gapped_word t ≡ word bytes (recorded t h)
  unfolding recorded moved
  word_is t h = (moved t h).2

  pub told : (t : GappedTape) (h : Taped f (Ok t)) (cells : ℕ) (r : Rule) (ls' : List Line) → Fitting (known f.names) f.rule.now [] r → ls' ≡ written [] r
      → (p : Report) → Told ls' (gapped_word t) cells (Ok p) → Reports bytes cells (Ok p)
  told t h cells r ls' fit e p j =
      judged p (recorded t h) r (transport (λ i. Fitting (known_is i) (says.rule i) [] r) fit)
      (transport (λ i. Judged (e i) (word_is t h i) p) j)

  pub untold : (t : GappedTape) (h : Taped f (Ok t)) (cells : ℕ) (r : Rule) (ls' : List Line) → Fitting (known f.names) f.rule.now [] r → ls' ≡ written [] r
      → (x : Refusal) → Told ls' (gapped_word t) cells (Err x) → Reports bytes cells (Err (Judging x))
  untold t h cells r ls' fit e x j =
      unjudged x (recorded t h) r (transport (λ i. Fitting (known_is i) (says.rule i) [] r) fit)
      (transport (λ i. Unjudged (e i) (word_is t h i) cells x) j)

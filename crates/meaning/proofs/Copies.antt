-- Samples are copied cell by cell.
use Rattle.std.proofs.Common.{◌≡◌, ℕ, ◌+◌, ◌-◌, ◌*◌, ◌<◌, ◌≤◌, List, length, get_or, set, sym, refl, ◌∙◌, subst, arith, get_or-set_other, get_or-set_same}
use native.Mathlib.Decide.{dec_lt}
use Rattle.meaning.specs.Cells.{Repeated}
use Rattle.meaning.proofs.Filling.{same_line, same_sample}

module _ {V : Type 0} {w v : ℕ} {before : List V} where
  -- no line yet, no sample yet
  pub no_lines : {lo hi : ℕ} → Repeated w 0 v lo hi before before
  no_lines = record { copies = λ d t a h₁ h₂ ha. absurd (omega arith); others = λ d i h. refl }

  pub no_samples : {m n : ℕ} → Repeated w m v n n before before
  no_samples = record { copies = λ d t a h₁ h₂ ha. absurd (omega arith); others = λ d i h. refl }

  -- one more line of sample t
  pub line_more : {t a : ℕ} {cells after : List V} {x : V} → a < w → 1 ≤ v → v ≤ t → t * w + a < length cells
      → Repeated w a v t (t + 1) before cells → ((d : V) → get_or cells ((t - v) * w + a) d ≡ x) → after ≡ set cells (t * w + a) x
      → Repeated w (a + 1) v t (t + 1) before after
  line_more {t} {a} {cells} {after} {x} hw hv hvt inside r is e =
      subst (Repeated w (a + 1) v t (t + 1) before) (sym e)
      (record {
        copies = λ d s b h₁ h₂ hb.
            let es : t ≡ s = omega arith in
            subst (λ s. get_or (set cells (t * w + a) x) (s * w + b) d ≡ get_or before ((s - v) * w + b) d) es
            (elim (dec_lt b a) [
              | yes below ↦
                  get_or-set_other cells (t * w + a) (t * w + b) x d (λ z. let q : b ≡ a = same_line w t b t a (omega arith) hw z in omega arith)
                  ∙ r.copies d t b (omega arith) (omega arith) below
              | no above ↦
                  let eb : a ≡ b = omega arith in
                  subst (λ b. get_or (set cells (t * w + a) x) (t * w + b) d ≡ get_or before ((t - v) * w + b) d) eb
                  (get_or-set_same cells (t * w + a) x d inside ∙ sym (is d)
                  ∙ r.others d ((t - v) * w + a) (λ u c h₃ h₄ hc z. let q : t - v ≡ u = same_sample w (t - v) a u c hw (omega arith) z in omega arith))
            ]);
        others = λ d i h.
            get_or-set_other cells (t * w + a) i x d (λ z. h t a (omega arith) (omega arith) (omega arith) z)
            ∙ r.others d i (λ u c h₁ h₂ hc z. h u c h₁ h₂ (omega arith) z);
      })

  -- one more sample, of the cycle behind lo
  pub sample_more : {m lo t : ℕ} {cells after : List V} → m ≤ w → 1 ≤ v → v ≤ lo → lo ≤ t → t < lo + v
      → Repeated w m v lo t before cells → Repeated w m v t (t + 1) cells after → Repeated w m v lo (t + 1) before after
  sample_more {m} {lo} {t} {cells} {after} hm hv hlo h₁ h₂ r q =
      record {
        copies = λ d s a h₃ h₄ ha.
            elim (dec_lt s t) [
              | yes earlier ↦
                  q.others d (s * w + a) (λ u c h₅ h₆ hc z. let e : s ≡ u = same_sample w s a u c (omega arith) (omega arith) z in omega arith)
                  ∙ r.copies d s a h₃ earlier ha
              | no here ↦
                  let e : t ≡ s = omega arith in
                  subst (λ s. get_or after (s * w + a) d ≡ get_or before ((s - v) * w + a) d) e
                  (q.copies d t a (omega arith) (omega arith) ha
                  ∙ r.others d ((t - v) * w + a) (λ u c h₅ h₆ hc z. let e : t - v ≡ u = same_sample w (t - v) a u c (omega arith) (omega arith) z in omega arith))
            ];
        others = λ d i h.
            q.others d i (λ u c h₃ h₄ hc z. h u c (omega arith) (omega arith) hc z)
            ∙ r.others d i (λ u c h₃ h₄ hc z. h u c h₃ (omega arith) hc z);
      }

  pub repeated_all : {m lo s t : ℕ} {cells : List V} → s ≤ t → t ≤ s → Repeated w m v lo s before cells → Repeated w m v lo t before cells
  repeated_all {m} {lo} {s} {t} {cells} a b r = let e : s ≡ t = omega arith in subst (λ i. Repeated w m v lo i before cells) e r

  pub lines_all : {m n lo hi : ℕ} {cells : List V} → m ≤ n → n ≤ m → Repeated w m v lo hi before cells → Repeated w n v lo hi before cells
  lines_all {m} {n} {lo} {hi} {cells} a b r = let e : m ≡ n = omega arith in subst (λ i. Repeated w i v lo hi before cells) e r

-- A word, byte by byte.
use Rattle.std.proofs.Common.{◌≡◌, ℕ, zero, suc, ◌+◌, ◌<◌, List, [], ◌∷◌, length, get_or, ap, ◌∙◌, arith}
use Rattle.std.proofs.lemmas.List.{ext_get_or}

-- from its byte k on, the word has these bytes
abbrev pub Spells : List ℕ → ℕ → List ℕ → Type 0
Spells w k [] = Unit
Spells w k (b ∷ bs) = (get_or w k 0 ≡ b) × Spells w (k + 1) bs

spelled_at : (w : List ℕ) (k : ℕ) (bs : List ℕ) → Spells w k bs → (i : ℕ) → i < length bs → get_or w (k + i) 0 ≡ get_or bs i 0
spelled_at w k [] s i h = absurd (omega arith)
spelled_at w k (b ∷ bs) s zero h = ap (λ j. get_or w j 0) (omega arith) ∙ s.0
spelled_at w k (b ∷ bs) s (suc i) h = ap (λ j. get_or w j 0) (omega arith) ∙ spelled_at w (k + 1) bs s.1 i (omega arith)

pub spelled : (w bs : List ℕ) → length w ≡ length bs → Spells w 0 bs → w ≡ bs
spelled w bs n s = ext_get_or 0 w bs n (λ i h. ap (λ j. get_or w j 0) (omega arith) ∙ spelled_at w 0 bs s i (omega arith))

-- A column is filled cell by cell.
use Rattle.std.proofs.Common.{◌≡◌, ℕ, ◌+◌, ◌-◌, ◌*◌, ◌/◌, ◌%◌, ◌<◌, ◌≤◌, ◌≢◌, List, length, get_or, set, sym, refl, ap, ◌∙◌, subst, arith, get_or-set_other, get_or-set_same}
use Rattle.std.proofs.lemmas.List.{get_or_default}
use native.Mathlib.Decide.{dec_lt}
use Rattle.std.proofs.lemmas.Nat.{mul-add-lt, div-mul-add, mod-mul-add}
use Rattle.meaning.specs.Cells.{Room, column, Fills, IsRow}

-- different lines or samples have different cells
pub same_line : (w s j t k : ℕ) → j < w → k < w → s * w + j ≡ t * w + k → j ≡ k
same_line w s j t k hj hk e = sym (mod-mul-add s w j hj) ∙ ap (λ n. n % w) e ∙ mod-mul-add t w k hk

pub same_sample : (w s j t k : ℕ) → j < w → k < w → s * w + j ≡ t * w + k → s ≡ t
same_sample w s j t k hj hk e = sym (div-mul-add s w j hj) ∙ ap (λ n. n / w) e ∙ div-mul-add t w k hk

pub room : {V : Type 0} (cells : List V) (w n : ℕ) → w * n ≤ length cells → Room cells w n
room cells w n h t k ht hk = omega (arith, mul-add-lt t w k n ht hk)

module _ {V M : Type 0} (means : V → M) (w k : ℕ) (below : k < w) (before : List V) (y : V → ℕ → M) where
  pub fills_none : (n : ℕ) → Fills means w k before y n n before
  fills_none n = record { values = λ d t lo hi. absurd (omega arith); others = λ d i h. refl }

  -- another line is read as it was
  pub others_kept : (lo hi : ℕ) (cells : List V) → Fills means w k before y lo hi cells → (a : ℕ) → a < k → (d : V) (t : ℕ) → get_or cells (t * w + a) d ≡ get_or before (t * w + a) d
  others_kept lo hi cells f a ha d t =
      f.others d (t * w + a) (λ s _ _ e. let z : a ≡ k = same_line w t a s k (omega arith) below e in omega arith)

  module _ (n : ℕ) (cells : List V) (x : V) (inside : n * w + k < length cells) (is : (d : V) → means x ≡ y d n) where
    value_here : (d : V) → column means (set cells (n * w + k) x) w k d n ≡ y d n
    value_here d = ap means (get_or-set_same cells (n * w + k) x d inside) ∙ is d

    value_there : (d : V) (t : ℕ) → t ≢ n → column means cells w k d t ≡ y d t → column means (set cells (n * w + k) x) w k d t ≡ y d t
    value_there d t ne e =
        ap means (get_or-set_other cells (n * w + k) (t * w + k) x d (λ z. ne (same_sample w t k n k below below z))) ∙ e

    pub fills_more : (lo : ℕ) → lo ≤ n → Fills means w k before y lo n cells → Fills means w k before y lo (n + 1) (set cells (n * w + k) x)
    fills_more lo hlo f =
        record {
          values = λ d t h₁ h₂.
              elim (dec_lt t n) [
                | yes a ↦ value_there d t (λ e. omega arith) (f.values d t h₁ a)
                | no b ↦ let e : n ≡ t = omega arith in subst (λ s. column means (set cells (n * w + k) x) w k d s ≡ y d s) e (value_here d)
              ];
          others = λ d i h.
              get_or-set_other cells (n * w + k) i x d (λ e. h n hlo (omega arith) e)
              ∙ f.others d i (λ t h₁ h₂ e. h t h₁ (omega arith) e);
        }

    pub fills_less : (hi : ℕ) → n < hi → Fills means w k before y (n + 1) hi cells → Fills means w k before y n hi (set cells (n * w + k) x)
    fills_less hi hhi f =
        record {
          values = λ d t h₁ h₂.
              elim (dec_lt n t) [
                | yes a ↦ value_there d t (λ e. omega arith) (f.values d t (omega arith) h₂)
                | no b ↦ let e : n ≡ t = omega arith in subst (λ s. column means (set cells (n * w + k) x) w k d s ≡ y d s) e (value_here d)
              ];
          others = λ d i h.
              get_or-set_other cells (n * w + k) i x d (λ e. h n (omega arith) hhi e)
              ∙ f.others d i (λ t h₁ h₂ e. h t (omega arith) h₂ e);
        }

module _ {V M : Type 0} {means : V → M} {w k : ℕ} {before : List V} {y : V → ℕ → M} where
  -- one more cell upward, as a write leaves it
  pub filled_more : {lo n : ℕ} {cells after : List V} {x : V} → k < w → lo ≤ n → n * w + k < length cells → Fills means w k before y lo n cells
      → after ≡ set cells (n * w + k) x → ((d : V) → means x ≡ y d n) → Fills means w k before y lo (n + 1) after
  filled_more {lo} {n} {cells} {after} {x} hk hlo inside f e is =
      subst (Fills means w k before y lo (n + 1)) (sym e) (fills_more means w k hk before y n cells x inside is lo hlo f)

  -- one more cell downward
  pub filled_less : {hi n : ℕ} {cells after : List V} {x : V} → k < w → n < hi → n * w + k < length cells → Fills means w k before y (n + 1) hi cells
      → after ≡ set cells (n * w + k) x → ((d : V) → means x ≡ y d n) → Fills means w k before y n hi after
  filled_less {hi} {n} {cells} {after} {x} hk hhi inside f e is =
      subst (Fills means w k before y n hi) (sym e) (fills_less means w k hk before y n cells x inside is hi hhi f)

  pub filled_all : {lo m n : ℕ} {cells : List V} → m ≤ n → n ≤ m → Fills means w k before y lo m cells → Fills means w k before y lo n cells
  filled_all {lo} {m} {n} {cells} a b f = let e : m ≡ n = omega arith in subst (λ i. Fills means w k before y lo i cells) e f

  -- a lower line, read while line k is filled
  pub read_as : {lo hi : ℕ} {cells : List V} → k < w → Fills means w k before y lo hi cells → (a t : ℕ) → a < k → (r : V)
      → ((d : V) → get_or cells (t * w + a) d ≡ r) → (d : V) → means r ≡ column means before w a d t
  read_as {lo} {hi} {cells} hk f a t ha r e d = ap means (sym (e d) ∙ others_kept means w k hk before y lo hi cells f a ha d t)

  -- a lower line's column, while line k is filled
  pub read_column : {lo hi : ℕ} {cells : List V} → k < w → Fills means w k before y lo hi cells → (a t : ℕ) → a < k → (d : V) → column means cells w a d t ≡ column means before w a d t
  read_column {lo} {hi} {cells} hk f a t ha d = ap means (others_kept means w k hk before y lo hi cells f a ha d t)

  -- the lower lines at a sample, while line k is filled
  pub row_kept : {lo hi t : ℕ} {cells row : List V} → k < w → Fills means w k before y lo hi cells → IsRow w k t cells row → IsRow w k t before row
  row_kept {lo} {hi} {t} {cells} hk f r =
      record { long = r.long; values = λ d a ha. r.values d a ha ∙ others_kept means w k hk before y lo hi cells f a ha d t }

  -- the same column, told otherwise
  pub filled_as : {z : V → ℕ → M} {lo hi : ℕ} {cells : List V} → ((d : V) (t : ℕ) → lo ≤ t → t < hi → y d t ≡ z d t) → Fills means w k before y lo hi cells → Fills means w k before z lo hi cells
  filled_as e f = record { values = λ d t h₁ h₂. f.values d t h₁ h₂ ∙ e d t h₁ h₂; others = f.others }

  -- one cell downward from t, as a loop that counts down has it
  pub filled_down : {hi t : ℕ} {cells after : List V} {x : V} → k < w → 0 < t → t ≤ hi → (t - 1) * w + k < length cells → Fills means w k before y t hi cells
      → after ≡ set cells ((t - 1) * w + k) x → ((d : V) → means x ≡ y d (t - 1)) → Fills means w k before y (t - 1) hi after
  filled_down {hi} {t} {cells} {after} {x} hk ht hhi inside f e is =
      let u : t ≡ t - 1 + 1 = omega arith in
      filled_less hk (omega arith) inside (subst (λ i. Fills means w k before y i hi cells) u f) e is

-- a value of the lower lines, as their column has it
pub row_column : {V M : Type 0} (means : V → M) {w m t : ℕ} {cells row : List V} → IsRow w m t cells row → (a : ℕ) → a < m → (x : V) → x ≡ get_or row a x
    → (d : V) → means x ≡ column means cells w a d t
row_column means {row = row} r a ha x e d = ap means (e ∙ get_or_default row a x d (omega (arith, r.long)) ∙ r.values d a ha)

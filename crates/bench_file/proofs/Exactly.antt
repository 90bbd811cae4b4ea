-- A file gets one refusal at most, and a bench file none.
use Rattle.std.proofs.Common.{◌≡◌, ℕ, ◌<◌, ◌≤◌, ◌⊎◌, List, length, sym, refl, ap, ◌∙◌, inl, inr, arith}
use Rattle.lexer.specs.declared.names.NamesRefusal.{NamesRefusal}
use Rattle.lexer.specs.declared.names.NamesRefusal.TheVariants.{Malformed}
use Rattle.lexer.specs.Names.{Good}
use Rattle.bench_file.specs.declared.refusal.FileRefusal.{FileRefusal}
use Rattle.bench_file.specs.declared.refusal.FileRefusal.TheVariants.{Form, Naming}
use Rattle.bench_file.specs.Files.{lines, line, IsRight, FirstWrong, InForm, Refuses, Exact}

order : (a b : ℕ) → (a < b) ⊎ ((a ≡ b) ⊎ (b < a))
order a b = grind arith

one_wrong : (ls : List (List ℕ)) (k j : ℕ) → FirstWrong ls k → FirstWrong ls j → k ≡ j
one_wrong ls k j a b = go (order k j)
  where
    go : (k < j) ⊎ ((k ≡ j) ⊎ (j < k)) → k ≡ j
    go (inl lt) = absurd (a.wrong (b.above k lt))
    go (inr (inl e)) = e
    go (inr (inr gt)) = absurd (b.wrong (a.above j gt))

-- where lines 0 to 2 are right and the names bad, no line is the first wrong one
no_wrong : (ls : List (List ℕ)) (k : ℕ) → ((j : ℕ) → j ≤ 2 → IsRight ls j) → (Good (line ls 2) → ⊥) → FirstWrong ls k → ⊥
no_wrong ls k right bad a = go (near k)
  where
    near : (k : ℕ) → (k ≤ 2) ⊎ (2 < k)
    near k = grind arith

    go : (k ≤ 2) ⊎ (2 < k) → ⊥
    go (inl le) = a.wrong (right k le)
    go (inr gt) = bad (a.named gt)

one_naming : (e g : NamesRefusal) → e ≡ g
one_naming Malformed Malformed = refl

abbrev Formed : List ℕ → ℕ → Type 0
Formed bytes k = ((16384 < length bytes) × (k ≡ 0)) ⊎ ((length bytes ≤ 16384) × FirstWrong (lines bytes) k)

one_form : (bytes : List ℕ) (k j : ℕ) → Formed bytes k → Formed bytes j → k ≡ j
one_form bytes k j (inl a) (inl b) = a.1 ∙ sym b.1
one_form bytes k j (inl a) (inr b) = absurd (omega (arith, a.0, b.0))
one_form bytes k j (inr a) (inl b) = absurd (omega (arith, a.0, b.0))
one_form bytes k j (inr a) (inr b) = one_wrong (lines bytes) k j a.1 b.1

form_naming : (bytes : List ℕ) (k : ℕ) (e : NamesRefusal) → Formed bytes k → Refuses bytes (Naming e) → ⊥
form_naming bytes k e (inl a) b = omega (arith, a.0, b.0)
form_naming bytes k e (inr a) b = no_wrong (lines bytes) k b.1 b.2 a.1

one : (bytes : List ℕ) (e g : FileRefusal) → Refuses bytes e → Refuses bytes g → e ≡ g
one bytes (Form k) (Form j) a b = ap (λ (n : ℕ). Form n) (one_form bytes k j a b)
one bytes (Form k) (Naming g) a b = absurd (form_naming bytes k g a b)
one bytes (Naming e) (Form j) a b = absurd (form_naming bytes j e b a)
one bytes (Naming e) (Naming g) a b = ap (λ (n : NamesRefusal). Naming n) (one_naming e g)

form_apart : (bytes : List ℕ) (k : ℕ) → InForm bytes → Formed bytes k → ⊥
form_apart bytes k f (inl a) = let s = f.short in omega (arith, s, a.0)
form_apart bytes k f (inr a) = a.1.wrong (f.right k a.1.within)

apart : (bytes : List ℕ) (e : FileRefusal) → InForm bytes → Refuses bytes e → ⊥
apart bytes (Form k) f a = form_apart bytes k f a
apart bytes (Naming e) f a = a.2 f.named

pub exact : (bytes : List ℕ) → Exact bytes
exact bytes = record { one = one bytes; apart = apart bytes }

-- What may name a signal, and which signal counts that fits.
use Rattle.std.specs.Prelude.{ℕ, ◌<◌, ◌↔◌, Some, None, Option}

-- a signal that is named fits exactly the counts above it, and what names none fits every count
abbrev pub NamesExactly : {V : Type 0} → (ℕ → V → Type 0) → V → Option ℕ → Type 0
NamesExactly fits x None = (c : ℕ) → fits c x
NamesExactly fits x (Some i) = (c : ℕ) → fits c x ↔ (i < c)

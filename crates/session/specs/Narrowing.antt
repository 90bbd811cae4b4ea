-- Numbers as numbers of fewer bits.
use Rattle.std.specs.Prelude.{ℕ, ◌<◌, List, length, Some, None, Ok, Err, vec_items, Option, Result, Vec, slice_index}
use Rattle.std.specs.List.{AllZip}
use Rattle.std.specs.declared.alloc.Global.{Global}

-- the numbers ns, each as the conversion gives it; none where it gives an error for one of them
abbrev pub Narrowed : {X E : Type 0} → (ℕ → Result X E → Type 0) → List ℕ → Option (Vec X Global) → Type 0
Narrowed {X} {E} gives ns None = (k : ℕ) × (k < length ns) × (e : E) × gives (slice_index ns k) (Err e)
Narrowed gives ns (Some v) = AllZip (λ n x. gives n (Ok x)) ns (vec_items v)

-- What each line of a sheet is worth at each sample of an endless word.
use Rattle.std.specs.Prelude.{◌≡◌, ℕ, zero, suc, ◌+◌, ◌-◌, ◌<◌, ◌≤◌, Bool, true, false, List, length}
use Rattle.recording.specs.Kind.{Kind, AtMost}
use Rattle.recording.specs.Word.{Word}
use Rattle.sheet.specs.declared.line.Line.{Line}
use Rattle.sheet.specs.declared.line.Line.TheVariants.{Const, Signal, Not, And, Or, Next, Until, WeakUntil, Previous, WeakPrevious, Since, WeakSince}
use Rattle.sheet.specs.Table.{line}

module _ (K : Kind) where
  -- a value at each sample
  abbrev pub Values : Type 0
  Values = ℕ → K.Value

  -- from sample s on, equal values at t and t + v
  abbrev pub Periodic : ℕ → ℕ → Values → Type 0
  Periodic v s l = (t : ℕ) → s ≤ t → l (t + v) ≡ l t

  -- the and of n values from sample t on
  abbrev pub ands : Values → ℕ → ℕ → K.Value
  ands l t zero = K.Yes
  ands l t (suc n) = K.And (l t) (ands l (suc t) n)

  -- the or of the first n values
  abbrev pub ors : Values → ℕ → K.Value
  ors g zero = K.No
  ors g (suc n) = K.Or (ors g n) (g n)

  -- right at d, and left at t to d - 1
  abbrev pub reach : Values → Values → ℕ → ℕ → K.Value
  reach left right t d = K.And (right d) (ands left t (d - t))

  -- p is at least every (right at d, and left at t to d - 1), d from t on
  abbrev pub Above : Values → Values → ℕ → K.Value → Type 0
  Above left right t p = (d : ℕ) → t ≤ d → AtMost K (reach left right t d) p

  -- p is the least such
  pub record IsUntil (left right : Values) (t : ℕ) (p : K.Value) : Type 0 where
    pub above : Above left right t p
    pub least : (q : K.Value) → Above left right t q → AtMost K p q

  -- p is at most left at every sample from t
  abbrev pub Under : Values → ℕ → K.Value → Type 0
  Under left t p = (d : ℕ) → t ≤ d → AtMost K p (left d)

  -- p is the greatest such
  pub record IsAlways (left : Values) (t : ℕ) (p : K.Value) : Type 0 where
    pub under : Under left t p
    pub greatest : (q : K.Value) → Under left t q → AtMost K q p

  -- p is an until's value, or an always' one
  pub record IsWeakUntil (left right : Values) (t : ℕ) (p : K.Value) : Type 0 where
    pub until : K.Value
    pub always : K.Value
    pub is_until : IsUntil left right t until
    pub is_always : IsAlways left t always
    pub is_or : p ≡ K.Or until always

  -- the or, over d from 0 to t, of (right at d, and left at d + 1 to t)
  abbrev pub since : Values → Values → ℕ → K.Value
  since left right t = ors (λ d. K.And (right d) (ands left (suc d) (t - d))) (suc t)

  -- left at t - 1, and start at sample 0
  abbrev pub before : K.Value → Values → ℕ → K.Value
  before start left zero = start
  before start left (suc t) = left t

  -- no for 0, yes for 1
  abbrev pub constant : Bool → K.Value
  constant false = K.No
  constant true = K.Yes

  module _ (word : Word K.Value) where
    -- p is what the sheet's table says of a line at sample t, where f are the values of the lower lines
    abbrev pub Row : Line → (ℕ → Values) → ℕ → K.Value → Type 0
    Row (Const b) f t p = p ≡ constant b
    Row (Signal i) f t p = p ≡ word.at i t
    Row (Not a) f t p = p ≡ K.Not (f a t)
    Row (And a b) f t p = p ≡ K.And (f a t) (f b t)
    Row (Or a b) f t p = p ≡ K.Or (f a t) (f b t)
    Row (Next a) f t p = p ≡ f a (t + 1)
    Row (Until a b) f t p = IsUntil (f a) (f b) t p
    Row (WeakUntil a b) f t p = IsWeakUntil (f a) (f b) t p
    Row (Previous a) f t p = p ≡ before K.No (f a) t
    Row (WeakPrevious a) f t p = p ≡ before K.Yes (f a) t
    Row (Since a b) f t p = p ≡ since (f a) (f b) t
    Row (WeakSince a b) f t p = p ≡ K.Or (since (f a) (f b) t) (ands (f a) 0 (suc t))

    -- f are the values of all lines: each is what the table says of it
    abbrev pub Valuation : List Line → (ℕ → Values) → Type 0
    Valuation lines f = (k : ℕ) → k < length lines → (t : ℕ) → Row (line lines k) f t (f k t)

-- the line that is the rule: the last
abbrev pub rule_of : List Line → ℕ
rule_of lines = length lines - 1

-- line k holds at sample t: its value there is yes
abbrev pub Holds : (K : Kind) → (ℕ → Values K) → ℕ → ℕ → Type 0
Holds K f k t = f k t ≡ K.Yes

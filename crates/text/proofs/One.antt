-- The first fault of a text is one fault.
use Rattle.std.proofs.Common.{◌≡◌, ℕ, ◌+◌, ◌-◌, ◌<◌, ◌≤◌, Bool, true, false, cond, eqb, ◌⊎◌, List, [], length, get_or, take, drop, sym, refl, ap, ◌∙◌, subst, inl, inr, arith}
use Rattle.std.proofs.lemmas.Bool.Decides.{nat_tests}
use Rattle.std.proofs.lemmas.List.{length-drop}
use Rattle.std.specs.Char.{is_ascii_lowercase}
use Rattle.lexer.specs.Names.{Letter, Letters, AllNames, AllDifferent}
use Rattle.sheet.specs.declared.refusal.Refusal.TheVariants.{Full}
use Rattle.text.specs.declared.sign.Prefix.{Prefix}
use Rattle.text.specs.declared.sign.Prefix.TheVariants.{Not, Next, Previous, WeakPrevious, Finally, Globally, Once, Historically}
use Rattle.text.specs.declared.sign.Infix.{Infix}
use Rattle.sheet.specs.declared.line.Line.{Line}
use Rattle.sheet.specs.declared.refusal.Refusal.{Refusal}
use Rattle.text.specs.declared.fault.Fault.{Fault}
use Rattle.text.specs.declared.fault.Fault.TheVariants.{Byte, Early, Unknown, Deep, After, Sheet as OfSheet}
use Rattle.text.specs.Rules.{Rule, written, prefix_sign, infix_sign}
use Rattle.text.specs.Reading.{Reads, Stands, NoUnit, Faulty, ends, wrong, unknown, deep_prefix, deep_pair, in_under, in_left, in_right, ends_left, no_infix, ends_right, no_close, full_digit, full_name, full_under, full_pair, FirstFault, too_long, inside, goes_on}
use Rattle.text.proofs.Unique.{prefix_at, one_rule, ends_stop, no_fault}

-- two rules that are read from one place are one
same_reads : (names : List (List ℕ)) → AllNames names → AllDifferent names → (text : List ℕ) (n : ℕ) (ls : List Line) (at : ℕ) (l q : Rule) (a b : ℕ)
    → Reads names text n ls at l a → Reads names text n ls at q b → (l ≡ q) × (a ≡ b)
same_reads names all dif text n ls at l q a b R S =
    let i = one_rule names all dif n l q (drop a text) (drop b text) R.fits S.fits (ends_stop names all text n ls at l a R) (ends_stop names all text n ls at q b S) (sym R.spells ∙ S.spells) in
    let m = ap length i.1 in
    let x = length-drop a text in
    let y = length-drop b text in
    let u = R.within in
    let v = S.within in
    (i.0, omega (arith, m, x, y, u, v))

-- a rule that is read has no fault
sound : (names : List (List ℕ)) → AllNames names → AllDifferent names → (text : List ℕ) (n : ℕ) (ls : List Line) (at : ℕ) (l : Rule) (a : ℕ) (f : Fault)
    → Reads names text n ls at l a → Faulty names text n ls at f → ⊥
sound names all dif text n ls at l a f R F =
    no_fault names text all dif F l (drop a text) (record { goes = R.spells; fits = R.fits; room = R.room; stop = ends_stop names all text n ls at l a R })

same_run_end : (text : List ℕ) (at a b : ℕ) → at < a → at < b → Letters text at a → Letters text at b → a ≡ b
same_run_end text at a b la lb s t = go (order a b)
  where
    order : (x y : ℕ) → (x < y) ⊎ ((x ≡ y) ⊎ (y < x))
    order x y = grind arith

    go : (a < b) ⊎ ((a ≡ b) ⊎ (b < a)) → a ≡ b
    go (inl h) = absurd (let w = t.within in s.stops (omega (arith, w, h)) (t.all a (omega (arith, la)) h))
    go (inr (inl e)) = e
    go (inr (inr h)) = absurd (let w = s.within in t.stops (omega (arith, w, h)) (s.all b (omega (arith, lb)) h))

-- what may stand where a unit is to begin
data Start : Type 0 where
  AtEnd AtWrong AtRun AtDigit AtPrefix AtOpen : Start

abbrev Starts : List ℕ → ℕ → Start → Type 0
Starts text at AtEnd = at ≡ length text
Starts text at AtWrong = NoUnit text at
Starts text at AtRun = (e : ℕ) × ((at < e) × Letters text at e)
Starts text at AtDigit = (v : ℕ) × ((v ≤ 1) × Stands text at (48 + v))
Starts text at AtPrefix = (p : Prefix) × Stands text at (prefix_sign p)
Starts text at AtOpen = Stands text at 40

-- which of these it is, by the byte there
abbrev is_prefix : ℕ → Bool
is_prefix b = eqb b (prefix_sign (prefix_at b))

abbrev start_of : ℕ → Start
start_of b = cond (is_ascii_lowercase b) AtRun (cond (eqb b 40) AtOpen (cond (eqb b 48) AtDigit (cond (eqb b 49) AtDigit (cond (is_prefix b) AtPrefix AtWrong))))

abbrev start_at : List ℕ → ℕ → Start
start_at text at = cond (eqb at (length text)) AtEnd (start_of (get_or text at 0))

differs : (a b : ℕ) → (a ≡ b → ⊥) → eqb a b ≡ false
differs a b h = grind (arith, nat_tests)

start_letter : (b : ℕ) → Letter b → start_of b ≡ AtRun
start_letter b l =
    let t : is_ascii_lowercase b ≡ true = grind (arith, nat_tests) in
    ap (λ (t : Bool). cond t AtRun (cond (eqb b 40) AtOpen (cond (eqb b 48) AtDigit (cond (eqb b 49) AtDigit (cond (is_prefix b) AtPrefix AtWrong))))) t

start_digit : (v : ℕ) → (v ≡ 0) ⊎ (v ≡ 1) → start_of (48 + v) ≡ AtDigit
start_digit v (inl e) = ap (λ (k : ℕ). start_of (48 + k)) e
start_digit v (inr e) = ap (λ (k : ℕ). start_of (48 + k)) e

start_prefix : (p : Prefix) → start_of (prefix_sign p) ≡ AtPrefix
start_prefix Not = refl
start_prefix Next = refl
start_prefix Previous = refl
start_prefix WeakPrevious = refl
start_prefix Finally = refl
start_prefix Globally = refl
start_prefix Once = refl
start_prefix Historically = refl

start_wrong : (text : List ℕ) (at : ℕ) → NoUnit text at → start_of (get_or text at 0) ≡ AtWrong
start_wrong text at w =
    let b : ℕ = get_or text at 0 in
    let l : is_ascii_lowercase b ≡ false = no_letter b w.letter in
    ap (λ (t : Bool). cond t AtRun (cond (eqb b 40) AtOpen (cond (eqb b 48) AtDigit (cond (eqb b 49) AtDigit (cond (is_prefix b) AtPrefix AtWrong))))) l
    ∙ ap (λ (t : Bool). cond t AtOpen (cond (eqb b 48) AtDigit (cond (eqb b 49) AtDigit (cond (is_prefix b) AtPrefix AtWrong)))) (differs b 40 w.bracket)
    ∙ ap (λ (t : Bool). cond t AtDigit (cond (eqb b 49) AtDigit (cond (is_prefix b) AtPrefix AtWrong))) (differs b 48 w.digit0)
    ∙ ap (λ (t : Bool). cond t AtDigit (cond (is_prefix b) AtPrefix AtWrong)) (differs b 49 w.digit1)
    ∙ ap (λ (t : Bool). cond t AtPrefix AtWrong) (differs b (prefix_sign (prefix_at b)) (w.prefix (prefix_at b)))
  where
    no_letter : (b : ℕ) → (Letter b → ⊥) → is_ascii_lowercase b ≡ false
    no_letter b h = grind (arith, nat_tests)

start_inside : (text : List ℕ) (at : ℕ) (k : Start) → at < length text → start_of (get_or text at 0) ≡ k → start_at text at ≡ k
start_inside text at k lt e =
    let f : eqb at (length text) ≡ false = grind (arith, nat_tests) in
    ap (λ (t : Bool). cond t AtEnd (start_of (get_or text at 0))) f ∙ e

starts : (text : List ℕ) (at : ℕ) (k : Start) → Starts text at k → start_at text at ≡ k
starts text at AtEnd x =
    let t : eqb at (length text) ≡ true = grind (arith, nat_tests) in
    ap (λ (t : Bool). cond t AtEnd (start_of (get_or text at 0))) t
starts text at AtWrong x = start_inside text at AtWrong x.within (start_wrong text at x)
starts text at AtRun x =
    let w = x.1.1.within in
    let h = x.1.0 in
    start_inside text at AtRun (omega (arith, w, h)) (start_letter _ (x.1.1.all at (omega arith) x.1.0))
starts text at AtDigit x = start_inside text at AtDigit x.1.1.0 (ap start_of x.1.1.1 ∙ start_digit x.0 (which x.0 x.1.0))
  where
    which : (v : ℕ) → v ≤ 1 → (v ≡ 0) ⊎ (v ≡ 1)
    which v f = grind arith
starts text at AtPrefix x = start_inside text at AtPrefix x.1.0 (ap start_of x.1.1 ∙ start_prefix x.0)
starts text at AtOpen x = start_inside text at AtOpen x.0 (ap start_of x.1)

abbrev NoneOf : List (List ℕ) → List ℕ → ℕ → ℕ → Type 0
NoneOf names text at end = (k : ℕ) → k < length names → get_or names k [] ≡ take (end - at) (drop at text) → ⊥

abbrev RunView : List (List ℕ) → List ℕ → ℕ → Fault → Type 0
RunView names text at f = (end : ℕ) × ((at < end) × Letters text at end
    × (((f ≡ Unknown at) × NoneOf names text at end) ⊎ ((f ≡ OfSheet Full at) × ((k : ℕ) × ((k < length names) × (get_or names k [] ≡ take (end - at) (drop at text)))))))

abbrev PreView : List (List ℕ) → List ℕ → ℕ → List Line → ℕ → Fault → Type 0
PreView names text n ls at f = ((n ≡ 32) × (f ≡ Deep at))
    ⊎ ((n < 32) × (Faulty names text (n + 1) ls (at + 1) f ⊎ ((r : Rule) × ((end : ℕ) × (Reads names text (n + 1) ls (at + 1) r end × (f ≡ OfSheet Full at))))))

abbrev Stage3 : List ℕ → ℕ → ℕ → Fault → Type 0
Stage3 text mid end f = ((end ≡ length text) × (f ≡ Early end)) ⊎ (((end < length text) × (get_or text end 0 ≡ 41 → ⊥) × (f ≡ Byte end)) ⊎ (Stands text end 41 × (f ≡ OfSheet Full mid)))

abbrev Stage2 : List (List ℕ) → List ℕ → ℕ → List Line → ℕ → Fault → Type 0
Stage2 names text n ls mid f = ((mid ≡ length text) × (f ≡ Early mid))
    ⊎ (((mid < length text) × ((s : Infix) → infix_sign s ≡ get_or text mid 0 → ⊥) × (f ≡ Byte mid))
    ⊎ ((s : Infix) × (Stands text mid (infix_sign s) × (Faulty names text n ls (mid + 1) f ⊎ ((r : Rule) × ((end : ℕ) × (Reads names text n ls (mid + 1) r end × Stage3 text mid end f)))))))

abbrev Stage1 : List (List ℕ) → List ℕ → ℕ → List Line → ℕ → Fault → Type 0
Stage1 names text n ls at f = ((n ≡ 32) × (f ≡ Deep at))
    ⊎ ((n < 32) × (Faulty names text (n + 1) ls (at + 1) f ⊎ ((l : Rule) × ((mid : ℕ) × (Reads names text (n + 1) ls (at + 1) l mid × Stage2 names text (n + 1) (written ls l) mid f)))))

-- what the fault is, by what stands where the unit is to begin
abbrev Seen : List (List ℕ) → List ℕ → ℕ → List Line → ℕ → Fault → Start → Type 0
Seen names text n ls at f AtEnd = f ≡ Early at
Seen names text n ls at f AtWrong = f ≡ Byte at
Seen names text n ls at f AtRun = RunView names text at f
Seen names text n ls at f AtDigit = f ≡ OfSheet Full at
Seen names text n ls at f AtPrefix = PreView names text n ls at f
Seen names text n ls at f AtOpen = Stage1 names text n ls at f

view : (names : List (List ℕ)) (text : List ℕ) {n : ℕ} {ls : List Line} {at : ℕ} {f : Fault} → Faulty names text n ls at f → (k : Start) × (Starts text at k × Seen names text n ls at f k)
view names text (ends e) = (AtEnd, (e, refl))
view names text (wrong w) = (AtWrong, (w, refl))
view names text (unknown {end = end} lt s none) = (AtRun, ((end, (lt, s)), (end, (lt, s, inl (refl, none)))))
view names text (deep_prefix p st e) = (AtPrefix, ((p, st), inl (e, refl)))
view names text (deep_pair st e) = (AtOpen, (st, inl (e, refl)))
view names text (in_under p st lt F) = (AtPrefix, ((p, st), inr (lt, inl F)))
view names text (in_left st lt F) = (AtOpen, (st, inr (lt, inl F)))
view names text (in_right {mid = mid} l s st lt R k F) = (AtOpen, (st, inr (lt, inr (l, (mid, (R, inr (inr (s, (k, inl F)))))))))
view names text (ends_left {mid = mid} l st lt R e) = (AtOpen, (st, inr (lt, inr (l, (mid, (R, inl (e, refl)))))))
view names text (no_infix {mid = mid} l st lt R w none) = (AtOpen, (st, inr (lt, inr (l, (mid, (R, inr (inl (w, none, refl))))))))
view names text (ends_right {mid = mid} {end = end} l s o st lt R k S e) = (AtOpen, (st, inr (lt, inr (l, (mid, (R, inr (inr (s, (k, inr (o, (end, (S, inl (e, refl)))))))))))))
view names text (no_close {mid = mid} {end = end} l s o st lt R k S w none) = (AtOpen, (st, inr (lt, inr (l, (mid, (R, inr (inr (s, (k, inr (o, (end, (S, inr (inl (w, none, refl))))))))))))))
view names text (full_digit v le st full) = (AtDigit, ((v, (le, st)), refl))
view names text (full_name {end = end} {k = k} lt s known e full) = (AtRun, ((end, (lt, s)), (end, (lt, s, inr (refl, (k, (known, e)))))))
view names text (full_under {end = end} p o st lt R big) = (AtPrefix, ((p, st), inr (lt, inr (o, (end, (R, refl))))))
view names text (full_pair {mid = mid} {end = end} l s o st lt R k S close big) = (AtOpen, (st, inr (lt, inr (l, (mid, (R, inr (inr (s, (k, inr (o, (end, (S, inr (inr (close, refl))))))))))))))

seen : (names : List (List ℕ)) (text : List ℕ) {n : ℕ} {ls : List Line} {at : ℕ} {f : Fault} → Faulty names text n ls at f → (k : Start) → Starts text at k → Seen names text n ls at f k
seen names text {n = n} {ls = ls} {at = at} {f = f} F k x =
    let w = view names text F in
    subst (Seen names text n ls at f) (sym (starts text at w.0 w.1.0) ∙ starts text at k x) w.1.1

moved_end : (names : List (List ℕ)) (text : List ℕ) (at a b k : ℕ) → a ≡ b → get_or names k [] ≡ take (a - at) (drop at text) → get_or names k [] ≡ take (b - at) (drop at text)
moved_end names text at a b k e h = h ∙ ap (λ (j : ℕ). take (j - at) (drop at text)) e

stage2_at : (names : List (List ℕ)) (text : List ℕ) (n : ℕ) (ls : List Line) (l q : Rule) (a b : ℕ) (g : Fault) → l ≡ q → a ≡ b
    → Stage2 names text n (written ls q) b g → Stage2 names text n (written ls l) a g
stage2_at names text n ls l q a b g e m h =
    let P : Rule → Type 0 = λ z. Stage2 names text n (written ls z) a g in
    let Q : ℕ → Type 0 = λ z. Stage2 names text n (written ls q) z g in
    subst P (sym e) (subst Q (sym m) h)

stage3_at : (text : List ℕ) (mid a b : ℕ) (g : Fault) → a ≡ b → Stage3 text mid b g → Stage3 text mid a g
stage3_at text mid a b g e h = let Q : ℕ → Type 0 = λ z. Stage3 text mid z g in subst Q (sym e) h

-- a fault of a pair whose left unit is read stands after it
past_left : (names : List (List ℕ)) (text : List ℕ) → AllNames names → AllDifferent names → {n : ℕ} {ls : List Line} {at : ℕ} {mid : ℕ} (l : Rule) {g : Fault}
    → Stands text at 40 → n < 32 → Reads names text (n + 1) ls (at + 1) l mid → Faulty names text n ls at g → Stage2 names text (n + 1) (written ls l) mid g
past_left names text all dif {n = n} {ls = ls} {at = at} {mid = mid} l {g = g} st lt R G =
    elim (seen names text G AtOpen st) [
      | inl q ↦ absurd (let h = q.0 in omega (arith, h, lt))
      | inr q ↦ elim q.1 [
        | inl H ↦ absurd (sound names all dif text (n + 1) ls (at + 1) l mid g R H)
        | inr z ↦ let m = same_reads names all dif text (n + 1) ls (at + 1) l z.0 mid z.1.0 R z.1.1.0 in
            stage2_at names text (n + 1) ls l z.0 mid z.1.0 g m.0 m.1 z.1.1.1
      ]
    ]

-- and one of a pair whose right unit is read too, after that
past_right : (names : List (List ℕ)) (text : List ℕ) → AllNames names → AllDifferent names → {n : ℕ} {ls : List Line} {mid end : ℕ} (s : Infix) (o : Rule) {g : Fault}
    → Stands text mid (infix_sign s) → Reads names text n ls (mid + 1) o end → Stage2 names text n ls mid g → Stage3 text mid end g
past_right names text all dif {n = n} {ls = ls} {mid = mid} {end = end} s o {g = g} k S T =
    elim T [
      | inl a ↦ absurd (let h = a.0 in let w = k.0 in omega (arith, h, w))
      | inr b ↦ elim b [
        | inl c ↦ absurd (c.1 s (sym k.1))
        | inr d ↦ elim d.1.1 [
          | inl H ↦ absurd (sound names all dif text n ls (mid + 1) o end g S H)
          | inr h ↦ let i = same_reads names all dif text n ls (mid + 1) o h.0 end h.1.0 S h.1.1.0 in stage3_at text mid end h.1.0 g i.1 h.1.1.1
        ]
      ]
    ]

same_fault : (names : List (List ℕ)) (text : List ℕ) → AllNames names → AllDifferent names → {n : ℕ} {ls : List Line} {at : ℕ} {f : Fault}
    → Faulty names text n ls at f → (g : Fault) → Faulty names text n ls at g → f ≡ g
same_fault names text all dif (ends {n = n} {ls = ls} {at = at} e) g G =
    sym (seen names text G AtEnd e)
same_fault names text all dif (wrong {n = n} {ls = ls} {at = at} w) g G =
    sym (seen names text G AtWrong w)
same_fault names text all dif (full_digit {n = n} {ls = ls} {at = at} v le st full) g G =
    sym (seen names text G AtDigit (v, (le, st)))
same_fault names text all dif (unknown {n = n} {ls = ls} {at = at} {end = end} lt s none) g G =
    let y = seen names text G AtRun (end, (lt, s)) in elim y.1.2 [ inl q ↦ sym q.0 | inr q ↦ absurd (none q.1.0 q.1.1.0 (moved_end names text at y.0 end q.1.0 (same_run_end text at y.0 end y.1.0 lt y.1.1 s) q.1.1.1)) ]
same_fault names text all dif (full_name {n = n} {ls = ls} {at = at} {end = end} {k = k} lt s known e full) g G =
    let y = seen names text G AtRun (end, (lt, s)) in elim y.1.2 [ inl q ↦ absurd (q.1 k known (moved_end names text at end y.0 k (same_run_end text at end y.0 lt y.1.0 s y.1.1) e)) | inr q ↦ sym q.0 ]
same_fault names text all dif (deep_prefix {n = n} {ls = ls} {at = at} p st e) g G =
    elim (seen names text G AtPrefix (p, st)) [ inl q ↦ sym q.1 | inr q ↦ absurd (let h = q.0 in omega (arith, h, e)) ]
same_fault names text all dif (in_under {n = n} {ls = ls} {at = at} p st lt F) g G =
    elim (seen names text G AtPrefix (p, st)) [ inl q ↦ absurd (let h = q.0 in omega (arith, h, lt)) | inr q ↦ elim q.1 [ inl H ↦ same_fault names text all dif F g H | inr z ↦ absurd (sound names all dif text (n + 1) ls (at + 1) z.0 z.1.0 _ z.1.1.0 F) ] ]
same_fault names text all dif (full_under {n = n} {ls = ls} {at = at} {end = end} p o st lt R big) g G =
    elim (seen names text G AtPrefix (p, st)) [ inl q ↦ absurd (let h = q.0 in omega (arith, h, lt)) | inr q ↦ elim q.1 [ inl H ↦ absurd (sound names all dif text (n + 1) ls (at + 1) o end g R H) | inr z ↦ sym z.1.1.1 ] ]
same_fault names text all dif (deep_pair {n = n} {ls = ls} {at = at} st e) g G =
    elim (seen names text G AtOpen st) [ inl q ↦ sym q.1 | inr q ↦ absurd (let h = q.0 in omega (arith, h, e)) ]
same_fault names text all dif (in_left {n = n} {ls = ls} {at = at} st lt F) g G =
    elim (seen names text G AtOpen st) [ inl q ↦ absurd (let h = q.0 in omega (arith, h, lt)) | inr q ↦ elim q.1 [ inl H ↦ same_fault names text all dif F g H | inr z ↦ absurd (sound names all dif text (n + 1) ls (at + 1) z.0 z.1.0 _ z.1.1.0 F) ] ]
same_fault names text all dif (in_right {n = n} {ls = ls} {mid = mid} l s st lt R k F) g G =
    elim (past_left names text all dif l st lt R G) [
      | inl a ↦ absurd (let h = a.0 in let w = k.0 in omega (arith, h, w))
      | inr b ↦ elim b [
        | inl c ↦ absurd (c.1 s (sym k.1))
        | inr d ↦ elim d.1.1 [ inl H ↦ same_fault names text all dif F g H | inr h ↦ absurd (sound names all dif text (n + 1) (written ls l) (mid + 1) h.0 h.1.0 _ h.1.1.0 F) ]
      ]
    ]
same_fault names text all dif (ends_left l st lt R e) g G =
    elim (past_left names text all dif l st lt R G) [
      | inl a ↦ sym a.1
      | inr b ↦ elim b [ inl c ↦ absurd (let h = c.0 in omega (arith, h, e)) | inr d ↦ absurd (let h = d.1.0.0 in omega (arith, h, e)) ]
    ]
same_fault names text all dif (no_infix l st lt R w none) g G =
    elim (past_left names text all dif l st lt R G) [
      | inl a ↦ absurd (let h = a.0 in omega (arith, h, w))
      | inr b ↦ elim b [ inl c ↦ sym c.2 | inr d ↦ absurd (none d.0 (sym d.1.0.1)) ]
    ]
same_fault names text all dif (ends_right l s o st lt R k S e) g G =
    elim (past_right names text all dif s o k S (past_left names text all dif l st lt R G)) [
      | inl a ↦ sym a.1
      | inr x ↦ elim x [ inl c ↦ absurd (let v = c.0 in omega (arith, v, e)) | inr c ↦ absurd (let v = c.0.0 in omega (arith, v, e)) ]
    ]
same_fault names text all dif (no_close l s o st lt R k S w none) g G =
    elim (past_right names text all dif s o k S (past_left names text all dif l st lt R G)) [
      | inl a ↦ absurd (let v = a.0 in omega (arith, v, w))
      | inr x ↦ elim x [ inl c ↦ sym c.2 | inr c ↦ absurd (none c.0.1) ]
    ]
same_fault names text all dif (full_pair l s o st lt R k S close big) g G =
    elim (past_right names text all dif s o k S (past_left names text all dif l st lt R G)) [
      | inl a ↦ absurd (let v = a.0 in let w = close.0 in omega (arith, v, w))
      | inr x ↦ elim x [ inl c ↦ absurd (c.1 close.1) | inr c ↦ sym c.1 ]
    ]

-- The first fault of a rule text is one fault.
pub one_fault : (names : List (List ℕ)) (text : List ℕ) (ls : List Line) → AllNames names → AllDifferent names → (f g : Fault)
    → FirstFault names text ls f → FirstFault names text ls g → f ≡ g
one_fault names text ls all dif f g F G = go F G
  where
    go : {a b : Fault} → FirstFault names text ls a → FirstFault names text ls b → a ≡ b
    go (too_long h) (too_long k) = refl
    go (too_long h) (inside k y) = absurd (omega (arith, h, k))
    go (too_long h) (goes_on r k R lt) = absurd (omega (arith, h, k))
    go (inside h x) (too_long k) = absurd (omega (arith, h, k))
    go (inside h x) (inside k y) = same_fault names text all dif x _ y
    go (inside h x) (goes_on {p = p} r k R lt) = absurd (sound names all dif text 0 ls 0 r p _ R x)
    go (goes_on r h R lt) (too_long k) = absurd (omega (arith, h, k))
    go (goes_on {p = p} r h R lt) (inside k y) = absurd (sound names all dif text 0 ls 0 r p _ R y)
    go (goes_on {p = p} r h R lt) (goes_on {p = q} o k S gt) = ap (λ (z : ℕ). After z) (same_reads names all dif text 0 ls 0 r o p q R S).1

-- Of the sheet's refusals only that of a full sheet comes out.
abbrev SheetFull : Fault → Type 0
SheetFull f = (e : Refusal) (at : ℕ) → f ≡ OfSheet e at → e ≡ Full

faulty_full : (names : List (List ℕ)) (text : List ℕ) {n : ℕ} {ls : List Line} {at : ℕ} {f : Fault} → Faulty names text n ls at f → SheetFull f
faulty_full names text (ends a) = λ e at q. cc
faulty_full names text (wrong a) = λ e at q. cc
faulty_full names text (unknown lt s none) = λ e at q. cc
faulty_full names text (deep_prefix p st d) = λ e at q. cc
faulty_full names text (deep_pair st d) = λ e at q. cc
faulty_full names text (in_under p st lt F) = faulty_full names text F
faulty_full names text (in_left st lt F) = faulty_full names text F
faulty_full names text (in_right l s st lt R k F) = faulty_full names text F
faulty_full names text (ends_left l st lt R d) = λ e at q. cc
faulty_full names text (no_infix l st lt R w none) = λ e at q. cc
faulty_full names text (ends_right l s o st lt R k S d) = λ e at q. cc
faulty_full names text (no_close l s o st lt R k S w none) = λ e at q. cc
faulty_full names text (full_digit v le st full) = λ e at q. cc
faulty_full names text (full_name lt s known d full) = λ e at q. cc
faulty_full names text (full_under p o st lt R big) = λ e at q. cc
faulty_full names text (full_pair l s o st lt R k S close big) = λ e at q. cc

pub first_full : (names : List (List ℕ)) (text : List ℕ) (ls : List Line) {f : Fault} → FirstFault names text ls f → SheetFull f
first_full names text ls (too_long h) = λ e at q. cc
first_full names text ls (inside h F) = faulty_full names text F
first_full names text ls (goes_on r h R lt) = λ e at q. cc

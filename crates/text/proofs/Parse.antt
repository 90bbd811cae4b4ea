-- What each way through the reader shows.
use Rattle.std.proofs.Common.{◌≡◌, ℕ, ◌+◌, ◌-◌, ◌<◌, ◌≤◌, Bool, true, false, cond, eqb, refl, ◌⊎◌, List, [], ◌∷◌, ◌++◌, length, get_or, drop, IsErrAnd, Option, None, Some, Ok, Err, Result, sym, ap, ◌∙◌, subst, inl, inr, arith, Bor}
use Rattle.std.proofs.lemmas.List.{append_assoc, length_push, drop_more, take-append-drop, drop-drop, get_or_past}
use Rattle.std.proofs.lemmas.Result.{err_from_is_err_and}
use Rattle.std.specs.Option.{ok_or}
use Rattle.lexer.specs.declared.token.Token.{Token}
use Rattle.lexer.specs.declared.token.Token.TheVariants.{Sign, Digit, Name}
use Rattle.lexer.specs.Names.{Finds, Letter, Letters}
use Rattle.lexer.specs.Tokens.{Among, signs, digits, NoToken, ByteToken, NameToken, IsToken, digit_of}
use Rattle.sheet.specs.declared.line.Line.{Line}
use Rattle.sheet.specs.declared.line.Line.TheVariants as line
use Rattle.sheet.specs.declared.refusal.Refusal.TheVariants.{Full}
use Rattle.text.specs.declared.sign.Prefix.{Prefix}
use Rattle.text.specs.declared.sign.Prefix.TheVariants.{Not, Next, Previous, WeakPrevious, Finally, Globally, Once, Historically}
use Rattle.text.specs.declared.sign.Infix.{Infix}
use Rattle.text.specs.declared.reader.Done.{Done}
use Rattle.text.specs.declared.fault.Fault.{Fault}
use Rattle.text.specs.declared.fault.Fault.TheVariants.{Byte, Early, Unknown, Sheet as OfSheet}
use Rattle.text.specs.Guards.{Grown}
use Rattle.text.specs.Rules.{IsPrefix, Rule, truth, signal, under, pair, spelled, written, last, prefix_sign, infix_sign, prefix_lines, infix_lines}
use Rattle.text.specs.Steps.{Missing, Whole, Outcome, Wrote}
use Rattle.text.specs.Reading.{Reads, Stands, NoUnit, Faulty, ends, wrong, unknown, in_right, ends_left, no_infix, ends_right, no_close, full_digit, full_name, full_under, full_pair}

-- an exit with a fault

pub outcome_err : (names : List (List ℕ)) (text : List ℕ) (n : ℕ) (before after : List Line) (at : ℕ) (r : Result Done Fault) (f : Fault)
    → IsErrAnd r (λ y. y ≡ f) → Faulty names text n before at f → Grown before after → Outcome names text n before after at r
outcome_err names text n before after at r f e w g =
    let p = err_from_is_err_and r e in
    let P : Result Done Fault → Type 0 = λ q. Outcome names text n before after at q in
    subst P (sym (p.1 ∙ ap (λ (y : Fault). Err y) p.2)) (w, g)

-- bytes

pub here : (text : List ℕ) (at b : ℕ) → Stands text at b → drop at text ≡ b ∷ drop (at + 1) text
here text at b (lt, e) = drop_more text at 0 lt ∙ ap (λ (x : ℕ). x ∷ drop (at + 1) text) e

pub prefix_among : (s : Prefix) (b : ℕ) → b ≡ prefix_sign s → Among signs b
prefix_among Not b e = inl e
prefix_among Next b e = inr (inl e)
prefix_among Previous b e = inr (inr (inl e))
prefix_among WeakPrevious b e = inr (inr (inr (inl e)))
prefix_among Finally b e = inr (inr (inr (inr (inl e))))
prefix_among Globally b e = inr (inr (inr (inr (inr (inl e)))))
prefix_among Once b e = inr (inr (inr (inr (inr (inr (inl e))))))
prefix_among Historically b e = inr (inr (inr (inr (inr (inr (inr (inl e)))))))

pub no_token : (text : List ℕ) (at : ℕ) → NoToken text at → at < length text → NoUnit text at
no_token text at t lt = record {
  within = lt;
  digit0 = λ e. t.digit lt (inl e);
  digit1 = λ e. t.digit lt (inr (inl e));
  letter = λ l. t.letter lt l;
  prefix = λ s e. t.sign lt (prefix_among s _ e);
  bracket = λ e. t.sign lt (inr (inr (inr (inr (inr (inr (inr (inr (inl e)))))))));
}

pub sign_no_digit : (b : ℕ) → Among signs b → (b ≡ 48) ⊎ (b ≡ 49) → ⊥
sign_no_digit b s d = grind arith

pub sign_no_letter : (b : ℕ) → Among signs b → Letter b → ⊥
sign_no_letter b s d = grind arith

pub no_prefix : (text : List ℕ) (at b after : ℕ) → ByteToken signs text at b after → (b ≡ 40 → ⊥) → ((p : Prefix) → prefix_sign p ≡ b → ⊥) → NoUnit text at
no_prefix text at b after t nb np = record {
  within = t.within;
  digit0 = λ e. sign_no_digit b t.among (inl (t.byte ∙ e));
  digit1 = λ e. sign_no_digit b t.among (inr (t.byte ∙ e));
  letter = λ l. sign_no_letter b t.among (subst (λ (x : ℕ). Letter x) (sym t.byte) l);
  prefix = λ s e. np s (sym (t.byte ∙ e));
  bracket = λ e. nb (t.byte ∙ e);
}

-- where a byte that is no letter stands before the place, no name goes on there
past_byte : (text : List ℕ) (at : ℕ) → (Letter (get_or text at 0) → ⊥) → Letter (get_or text (at + 1 - 1) 0) → Letter (get_or text (at + 1) 0) → ⊥
past_byte text at h l m =
    let e : at + 1 - 1 ≡ at = omega arith in
    h (subst (λ (k : ℕ). Letter (get_or text k 0)) e l)

digit_no_letter : (b : ℕ) → Among digits b → Letter b → ⊥
digit_no_letter b s d = grind arith

-- no letter stands where the letters end
pub past : (text : List ℕ) (at end : ℕ) → Letters text at end → Letter (get_or text end 0) → ⊥
past text at end s m = by_place (near end (length text))
  where
    near : (a b : ℕ) → (a < b) ⊎ (b ≤ a)
    near a b = grind arith

    by_place : (end < length text) ⊎ (length text ≤ end) → ⊥
    by_place (inl lt) = s.stops lt m
    by_place (inr le) = let e = get_or_past text end 0 le in omega (arith, e, m.0)

-- the lines of a unit fit, where the sheet took the last of them
room : (before after own : List Line) (at n : ℕ) → Wrote before after own at (Ok n) → length after ≤ 64
room before after own at n w = omega (arith, w.1, w.2)

-- the number of a truth value
abbrev pub value_of : Bool → ℕ
value_of v = cond v 1 0

digit_value : (v : Bool) → 48 + value_of v ≡ digit_of v
digit_value true = refl
digit_value false = refl

few_values : (v : Bool) → value_of v ≤ 1
few_values true = omega arith
few_values false = omega arith

const_lines : (v : Bool) → line.Const v ≡ line.Const (eqb (value_of v) 1)
const_lines true = refl
const_lines false = refl

pub whole_truth : (names : List (List ℕ)) (text : List ℕ) (n : ℕ) (before after : List Line) (at : ℕ) (d : Done) (v : Bool)
    → ByteToken digits text at (digit_of v) d.end → Wrote before after (line.Const v ∷ []) at (Ok d.line)
    → Whole names text n before after at d (truth (value_of v))
whole_truth names text n before after at d v t w =
    let all : after ≡ before ++ line.Const (eqb (value_of v) 1) ∷ [] = w.0 ∙ ap (λ (x : Line). before ++ x ∷ []) (const_lines v) in
    record {
      reads = record {
        spells = here text at (48 + value_of v) (t.within, sym t.byte ∙ sym (digit_value v)) ∙ ap (λ (k : ℕ). (48 + value_of v) ∷ drop k text) (sym t.next);
        within = (let x = t.within in let y = t.next in omega (arith, x, y));
        onward = (let y = t.next in omega (arith, y));
        fits = few_values v;
        room = subst (λ (ls : List Line). length ls ≤ 64) all (room before after _ at _ w);
        whole = subst (λ (k : ℕ). Letter (get_or text (k - 1) 0) → Letter (get_or text k 0) → ⊥) (sym t.next)
            (past_byte text at (λ l. digit_no_letter (digit_of v) t.among (subst (λ (x : ℕ). Letter x) (sym t.byte) l)));
      };
      lines = all;
      line = w.1;
    }

pub whole_signal : (names : List (List ℕ)) (text : List ℕ) (n : ℕ) (before after : List Line) (at : ℕ) (d : Done) (name : List ℕ) (place k : ℕ)
    → NameToken text at name place d.end → k < length names → get_or names k [] ≡ name → Wrote before after (line.Signal k ∷ []) place (Ok d.line)
    → Whole names text n before after at d (signal k)
whole_signal names text n before after at d name place k t lt e w =
    let le : at ≤ d.end = t.letters.from in
    let sum : at + (d.end - at) ≡ d.end = omega arith in
    record {
      reads = record {
        spells = sym (take-append-drop (d.end - at) (drop at text))
            ∙ ap (λ (xs : List ℕ). xs ++ drop (d.end - at) (drop at text)) (sym (e ∙ t.part))
            ∙ ap (λ (xs : List ℕ). get_or names k [] ++ xs) (drop-drop (d.end - at) at text ∙ ap (λ (j : ℕ). drop j text) sum);
        within = t.letters.within;
        onward = t.some;
        fits = lt;
        room = subst (λ (ls : List Line). length ls ≤ 64) w.0 (room before after _ place _ w);
        whole = λ _ m. past text at d.end t.letters m;
      };
      lines = w.0;
      line = w.1;
    }

-- the number of the last line
last_is : (ls : List Line) (n : ℕ) → n + 1 ≡ length ls → n ≡ last ls
last_is ls n e = omega (arith, e)

pub lines_under : (names : List (List ℕ)) (text : List ℕ) (n : ℕ) (before mid : List Line) (at : ℕ) (d : Done) (p : Prefix) (r : Rule)
    → Whole names text n before mid at d r → mid ++ prefix_lines p d.line (length mid) ≡ written before (under p r)
lines_under names text n before mid at d p r w =
    ap (λ (k : ℕ). mid ++ prefix_lines p k (length mid)) (last_is mid d.line w.line)
    ∙ ap (λ (ls : List Line). ls ++ prefix_lines p (last ls) (length ls)) w.lines

pub whole_under : (names : List (List ℕ)) (text : List ℕ) (n : ℕ) (before mid after : List Line) (at q : ℕ) (p : Prefix) (r : Rule) (inner d : Done)
    → Stands text at (prefix_sign p) → n < 32 → Whole names text (n + 1) before mid (at + 1) inner r
    → Wrote mid after (prefix_lines p inner.line (length mid)) q (Ok d.line) → d.end ≡ inner.end
    → Whole names text n before after at d (under p r)
whole_under names text n before mid after at q p r inner d here_sign lt w wrote e =
    let all : after ≡ written before (under p r) = wrote.0 ∙ lines_under names text (n + 1) before mid (at + 1) inner p r w in
    let R = w.reads in
    record {
      reads = record {
        spells = here text at (prefix_sign p) here_sign ∙ ap (λ (xs : List ℕ). prefix_sign p ∷ xs) (R.spells ∙ ap (λ (k : ℕ). spelled names r ++ drop k text) (sym e));
        within = subst (λ (k : ℕ). k ≤ length text) (sym e) R.within;
        onward = (let o = R.onward in omega (arith, o, e));
        fits = (lt, R.fits);
        room = subst (λ (ls : List Line). length ls ≤ 64) all (room mid after _ q _ wrote);
        whole = subst (λ (k : ℕ). Letter (get_or text (k - 1) 0) → Letter (get_or text k 0) → ⊥) (sym e) R.whole;
      };
      lines = all;
      line = wrote.1;
    }

-- the right unit of a pair, after the lines of the left one
pub moved : (names : List (List ℕ)) (text : List ℕ) (n : ℕ) (ls ls' : List Line) (at : ℕ) (r : Rule) (end : ℕ)
    → ls ≡ ls' → Reads names text n ls at r end → Reads names text n ls' at r end
moved names text n ls ls' at r end e h = let P : List Line → Type 0 = λ x. Reads names text n x at r end in subst P e h

pub lines_pair : (names : List (List ℕ)) (text : List ℕ) (n : ℕ) (before mid after : List Line) (at at' : ℕ) (d d' : Done) (l : Rule) (s : Infix) (r : Rule)
    → Whole names text n before mid at d l → Whole names text n mid after at' d' r
    → after ++ infix_lines s d.line d'.line (length after) ≡ written before (pair l s r)
lines_pair names text n before mid after at at' d d' l s r v w =
    ap (λ (k : ℕ). after ++ infix_lines s k d'.line (length after)) (last_is mid d.line v.line)
    ∙ ap (λ (k : ℕ). after ++ infix_lines s (last mid) k (length after)) (last_is after d'.line w.line)
    ∙ ap (λ (ls : List Line). ls ++ infix_lines s (last mid) (last ls) (length ls)) w.lines
    ∙ ap (λ (m : List Line). written m r ++ infix_lines s (last m) (last (written m r)) (length (written m r))) v.lines

pub whole_pair : (names : List (List ℕ)) (text : List ℕ) (n : ℕ) (before mid next after : List Line) (at q : ℕ) (l : Rule) (s : Infix) (r : Rule) (left right d : Done)
    → Stands text at 40 → n < 32 → Whole names text (n + 1) before mid (at + 1) left l
    → Stands text left.end (infix_sign s) → Whole names text (n + 1) mid next (left.end + 1) right r → Stands text right.end 41
    → Wrote next after (infix_lines s left.line right.line (length next)) q (Ok d.line) → d.end ≡ right.end + 1
    → Whole names text n before after at d (pair l s r)
whole_pair names text n before mid next after at q l s r left right d open_here lt v infix_here w close_here wrote e =
    let all : after ≡ written before (pair l s r) = wrote.0 ∙ lines_pair names text (n + 1) before mid next (at + 1) (left.end + 1) left right l s r v w in
    let L = v.reads in
    let R = w.reads in
    let tail : drop right.end text ≡ (41 ∷ []) ++ drop d.end text =
    here text right.end 41 close_here ∙ ap (λ (k : ℕ). 41 ∷ drop k text) (sym e) in
    let rest : drop left.end text ≡ infix_sign s ∷ (spelled names r ++ ((41 ∷ []) ++ drop d.end text)) =
    here text left.end (infix_sign s) infix_here ∙ ap (λ (xs : List ℕ). infix_sign s ∷ xs) (R.spells ∙ ap (λ (xs : List ℕ). spelled names r ++ xs) tail) in
    let front : drop at text ≡ 40 ∷ (spelled names l ++ (infix_sign s ∷ (spelled names r ++ ((41 ∷ []) ++ drop d.end text)))) =
    here text at 40 open_here ∙ ap (λ (xs : List ℕ). 40 ∷ xs) (L.spells ∙ ap (λ (xs : List ℕ). spelled names l ++ xs) rest) in
    record {
      reads = record {
        spells = front ∙ sym (simp append_assoc);
        within = (let x = close_here.0 in omega (arith, x, e));
        onward = (let o = L.onward in let u = R.onward in omega (arith, o, u, e));
        fits = (lt, L.fits, R.fits);
        room = subst (λ (ls : List Line). length ls ≤ 64) all (room next after _ q _ wrote);
        whole = subst (λ (k : ℕ). Letter (get_or text (k - 1) 0) → Letter (get_or text k 0) → ⊥) (sym e)
            (past_byte text right.end (λ x. let z = close_here.1 in omega (arith, z, x.0, x.1)));
      };
      lines = all;
      line = wrote.1;
    }

-- the faults of a pair after its left unit and after its right one

pub fault_infix : (names : List (List ℕ)) (text : List ℕ) (n : ℕ) (before mid : List Line) (at : ℕ) (l : Rule) (left : Done) (f : Fault)
    → Stands text at 40 → n < 32 → Whole names text (n + 1) before mid (at + 1) left l
    → Missing text left.end ((s : Infix) → infix_sign s ≡ get_or text left.end 0 → ⊥) f → Faulty names text n before at f
fault_infix names text n before mid at l left f o lt v m = go m
  where
    go : Missing text left.end ((s : Infix) → infix_sign s ≡ get_or text left.end 0 → ⊥) f → Faulty names text n before at f
    go (inl x) = subst (λ (q : Fault). Faulty names text n before at q) (sym x.0) (ends_left l o lt v.reads x.1)
    go (inr x) = subst (λ (q : Fault). Faulty names text n before at q) (sym x.0) (no_infix l o lt v.reads x.1 x.2)

pub fault_close : (names : List (List ℕ)) (text : List ℕ) (n : ℕ) (before mid next : List Line) (at : ℕ) (l : Rule) (s : Infix) (r : Rule) (left right : Done) (f : Fault)
    → Stands text at 40 → n < 32 → Whole names text (n + 1) before mid (at + 1) left l → Stands text left.end (infix_sign s)
    → Whole names text (n + 1) mid next (left.end + 1) right r
    → Missing text right.end (get_or text right.end 0 ≡ 41 → ⊥) f → Faulty names text n before at f
fault_close names text n before mid next at l s r left right f o lt v k w m = go m
  where
    go : Missing text right.end (get_or text right.end 0 ≡ 41 → ⊥) f → Faulty names text n before at f
    go (inl x) = subst (λ (q : Fault). Faulty names text n before at q) (sym x.0) (ends_right l s r o lt v.reads k (moved _ _ _ _ _ _ _ _ v.lines w.reads) x.1)
    go (inr x) = subst (λ (q : Fault). Faulty names text n before at q) (sym x.0) (no_close l s r o lt v.reads k (moved _ _ _ _ _ _ _ _ v.lines w.reads) x.1 x.2)

pub fault_right : (names : List (List ℕ)) (text : List ℕ) (n : ℕ) (before mid : List Line) (at : ℕ) (l : Rule) (s : Infix) (left : Done) (f : Fault)
    → Stands text at 40 → n < 32 → Whole names text (n + 1) before mid (at + 1) left l → Stands text left.end (infix_sign s)
    → Faulty names text (n + 1) mid (left.end + 1) f → Faulty names text n before at f
fault_right names text n before mid at l s left f o lt v k w =
    let P : List Line → Type 0 = λ x. Faulty names text (n + 1) x (left.end + 1) f in
    in_right l s o lt v.reads k (subst P v.lines w)

-- the text ends where a unit is to stand
pub fault_ends : (names : List (List ℕ)) (text : List ℕ) (n : ℕ) (before : List Line) (at : ℕ) (f : Fault) → (f ≡ Early at) × (at ≡ length text) → Faulty names text n before at f
fault_ends names text n before at f e = subst (λ (q : Fault). Faulty names text n before at q) (sym e.0) (ends e.1)

-- the sheet is full

pub fault_pair_full : (names : List (List ℕ)) (text : List ℕ) (n : ℕ) (before mid next after : List Line) (at : ℕ) (l : Rule) (s : Infix) (r : Rule) (left right : Done) (f : Fault)
    → Stands text at 40 → n < 32 → Whole names text (n + 1) before mid (at + 1) left l → Stands text left.end (infix_sign s)
    → Whole names text (n + 1) mid next (left.end + 1) right r → Stands text right.end 41
    → Wrote next after (infix_lines s left.line right.line (length next)) left.end (Err f) → Faulty names text n before at f
fault_pair_full names text n before mid next after at l s r left right f o lt v k w z wrote =
    let P : Fault → Type 0 = λ x. Faulty names text n before at x in
    subst P (sym wrote.0) (full_pair l s r o lt v.reads k (moved _ _ _ _ _ _ _ _ v.lines w.reads) z
    (subst (λ (ls : List Line). 64 < length ls) (lines_pair names text (n + 1) before mid next (at + 1) (left.end + 1) left right l s r v w) wrote.1))

pub fault_under_full : (names : List (List ℕ)) (text : List ℕ) (n : ℕ) (before mid after : List Line) (at : ℕ) (p : Prefix) (r : Rule) (inner : Done) (f : Fault)
    → Stands text at (prefix_sign p) → n < 32 → Whole names text (n + 1) before mid (at + 1) inner r
    → Wrote mid after (prefix_lines p inner.line (length mid)) at (Err f) → Faulty names text n before at f
fault_under_full names text n before mid after at p r inner f o lt v wrote =
    let P : Fault → Type 0 = λ x. Faulty names text n before at x in
    subst P (sym wrote.0) (full_under p r o lt v.reads
    (subst (λ (ls : List Line). 64 < length ls) (lines_under names text (n + 1) before mid (at + 1) inner p r v) wrote.1))

pub fault_digit_full : (names : List (List ℕ)) (text : List ℕ) (n : ℕ) (before after : List Line) (at end : ℕ) (v : Bool) (f : Fault)
    → ByteToken digits text at (digit_of v) end → length before ≤ 64 → Wrote before after (line.Const v ∷ []) at (Err f) → Faulty names text n before at f
fault_digit_full names text n before after at end v f t few wrote =
    let P : Fault → Type 0 = λ x. Faulty names text n before at x in
    subst P (sym wrote.0) (full_digit (value_of v) (few_values v) (t.within, sym t.byte ∙ sym (digit_value v))
    (let l = length_push before (line.Const v) in omega (arith, l, few, wrote.1)))

pub fault_name_full : (names : List (List ℕ)) (text : List ℕ) (n : ℕ) (before after : List Line) (at : ℕ) (name : List ℕ) (place k end : ℕ) (f : Fault)
    → NameToken text at name place end → (k < length names) × (get_or names k [] ≡ name) → length before ≤ 64
    → Wrote before after (line.Signal k ∷ []) place (Err f) → Faulty names text n before at f
fault_name_full names text n before after at name place k end f t ks few wrote =
    let P : Fault → Type 0 = λ x. Faulty names text n before at x in
    subst P (sym (wrote.0 ∙ ap (λ (p : ℕ). OfSheet Full p) t.there)) (full_name t.some t.letters ks.0 (ks.1 ∙ t.part)
    (let l = length_push before (line.Signal k) in omega (arith, l, few, wrote.1)))

pub fault_unknown : (names : List (List ℕ)) (text : List ℕ) (n : ℕ) (before : List Line) (at : ℕ) (name : List ℕ) (place end : ℕ) (o : Option ℕ) (f : Fault)
    → NameToken text at name place end → Finds names name o → (o ≡ None) × (f ≡ Unknown place) → Faulty names text n before at f
fault_unknown names text n before at name place end o f t found e =
    let P : Fault → Type 0 = λ x. Faulty names text n before at x in
    let no_name = subst (Finds names name) e.0 found in
    subst P (sym (e.1 ∙ ap (λ (x : ℕ). Unknown x) t.there)) (unknown t.some t.letters (λ k lt q. no_name k lt (q ∙ sym t.part)))

pub fault_no_prefix : (names : List (List ℕ)) (text : List ℕ) (n : ℕ) (before : List Line) (at b after : ℕ) (o : Option Prefix) (f : Fault)
    → ByteToken signs text at b after → (b ≡ 40 → ⊥) → IsPrefix b o → (o ≡ None) × (f ≡ Byte at) → Faulty names text n before at f
fault_no_prefix names text n before at b after o f t nb read e =
    let P : Fault → Type 0 = λ x. Faulty names text n before at x in
    subst P (sym e.1) (wrong (no_prefix text at b after t nb (subst (IsPrefix b) e.0 read)))

-- what stood in an `Option` that `ok_or` made a `Result` of

pub was_some : {T E : Type 0} (o : Option T) (e : E) (r : Result T E) (x : T) → r ≡ ok_or o e → r ≡ Ok x → o ≡ Some x
was_some None e r x p q = absurd (cc (p, q))
was_some (Some y) e r x p q = cc

pub was_none : {T E : Type 0} (o : Option T) (e f : E) (r : Result T E) → r ≡ ok_or o e → r ≡ Err f → (o ≡ None) × (f ≡ e)
was_none None e f r p q = (refl, cc)
was_none (Some y) e f r p q = absurd (cc (p, q))

-- what the token is, at each kind

pub token_name : (text : List ℕ) (at : ℕ) (t : Token) (after : ℕ) (b : Bor (List ℕ)) (place : ℕ)
    → t ≡ Name b place → IsToken text at (Some (t, after)) → NameToken text at b.now place after
token_name text at t after b place e h = let P : Token → Type 0 = λ x. IsToken text at (Some (x, after)) in subst P e h

pub token_digit : (text : List ℕ) (at : ℕ) (t : Token) (after : ℕ) (v : Bool) → t ≡ Digit v → IsToken text at (Some (t, after)) → ByteToken digits text at (digit_of v) after
token_digit text at t after v e h = let P : Token → Type 0 = λ x. IsToken text at (Some (x, after)) in subst P e h

pub token_sign : (text : List ℕ) (at : ℕ) (t : Token) (after b : ℕ) → t ≡ Sign b → IsToken text at (Some (t, after)) → ByteToken signs text at b after
token_sign text at t after b e h = let P : Token → Type 0 = λ x. IsToken text at (Some (x, after)) in subst P e h

pub sign_stands : (text : List ℕ) (at b after : ℕ) (p : Prefix) → ByteToken signs text at b after → prefix_sign p ≡ b → Stands text at (prefix_sign p)
sign_stands text at b after p t e = (t.within, sym t.byte ∙ sym e)

-- the same from an equal place

pub whole_at : (names : List (List ℕ)) (text : List ℕ) (n : ℕ) (before after : List Line) (at at' : ℕ) (d : Done) (r : Rule)
    → at ≡ at' → Whole names text n before after at d r → Whole names text n before after at' d r
whole_at names text n before after at at' d r e h = let P : ℕ → Type 0 = λ x. Whole names text n before after x d r in subst P e h

pub faulty_at : (names : List (List ℕ)) (text : List ℕ) (n : ℕ) (before : List Line) (at at' : ℕ) (f : Fault)
    → at ≡ at' → Faulty names text n before at f → Faulty names text n before at' f
faulty_at names text n before at at' f e h = let P : ℕ → Type 0 = λ x. Faulty names text n before x f in subst P e h

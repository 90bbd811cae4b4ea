-- The truth kinds that are built: no and yes; and no, lost, yes, which rise.
use Rattle.std.specs.Prelude.{◌≡◌, Bool, true, false, not, ◌&&◌, ◌||◌, refl}
use Rattle.recording.specs.Kind.{Kind}
use Rattle.recording.specs.declared.truth.Ternary.{Ternary}
use Rattle.recording.specs.declared.truth.Ternary.TheVariants.{No, Lost, Yes}

-- no and yes
abbrev pub two : Kind
two =
    record {
      Value = Bool;
      No = false;
      Yes = true;
      And = ◌&&◌;
      Or = ◌||◌;
      Not = not;
      and_assoc = elim [ true ↦ λ q r. refl | false ↦ λ q r. refl ];
      and_comm = elim [ true ↦ elim [ true ↦ refl | false ↦ refl ] | false ↦ elim [ true ↦ refl | false ↦ refl ] ];
      or_assoc = elim [ true ↦ λ q r. refl | false ↦ λ q r. refl ];
      or_comm = elim [ true ↦ elim [ true ↦ refl | false ↦ refl ] | false ↦ elim [ true ↦ refl | false ↦ refl ] ];
      and_absorbs = elim [ true ↦ λ q. refl | false ↦ λ q. refl ];
      or_absorbs = elim [ true ↦ λ q. refl | false ↦ λ q. refl ];
      and_over_or = elim [ true ↦ λ q r. refl | false ↦ λ q r. refl ];
      or_over_and = elim [ true ↦ λ q r. refl | false ↦ λ q r. refl ];
      and_yes = elim [ true ↦ refl | false ↦ refl ];
      or_no = elim [ true ↦ refl | false ↦ refl ];
      not_not = elim [ true ↦ refl | false ↦ refl ];
      not_or = elim [ true ↦ λ q. refl | false ↦ λ q. refl ];
    }

-- no and yes, among the three
abbrev pub raised : Bool → Ternary
raised false = No
raised true = Yes

-- the lower of two
abbrev pub both : Ternary → Ternary → Ternary
both No q = No
both Lost No = No
both Lost Lost = Lost
both Lost Yes = Lost
both Yes q = q

-- the higher of two
abbrev pub either : Ternary → Ternary → Ternary
either No q = q
either Lost No = Lost
either Lost Lost = Lost
either Lost Yes = Yes
either Yes q = Yes

-- not keeps lost
abbrev pub other : Ternary → Ternary
other No = Yes
other Lost = Lost
other Yes = No

-- no, lost, yes
abbrev pub three : Kind
three =
    record {
      Value = Ternary;
      No = No;
      Yes = Yes;
      And = both;
      Or = either;
      Not = other;
      and_assoc = each_3 (λ p q r. both (both p q) r ≡ both p (both q r)) (λ q r. refl) (each_2 (λ q r. both (both Lost q) r ≡ both Lost (both q r)) (λ r. refl) (each (λ r. both Lost r ≡ both Lost (both Lost r)) refl refl refl) (λ r. refl)) (λ q r. refl);
      and_comm = each_2 (λ p q. both p q ≡ both q p) (each (λ q. No ≡ both q No) refl refl refl) (each (λ q. both Lost q ≡ both q Lost) refl refl refl) (each (λ q. q ≡ both q Yes) refl refl refl);
      or_assoc = each_3 (λ p q r. either (either p q) r ≡ either p (either q r)) (λ q r. refl) (each_2 (λ q r. either (either Lost q) r ≡ either Lost (either q r)) (λ r. refl) (each (λ r. either Lost r ≡ either Lost (either Lost r)) refl refl refl) (λ r. refl)) (λ q r. refl);
      or_comm = each_2 (λ p q. either p q ≡ either q p) (each (λ q. q ≡ either q No) refl refl refl) (each (λ q. either Lost q ≡ either q Lost) refl refl refl) (each (λ q. Yes ≡ either q Yes) refl refl refl);
      and_absorbs = each_2 (λ p q. both p (either p q) ≡ p) (λ q. refl) (each (λ q. both Lost (either Lost q) ≡ Lost) refl refl refl) (λ q. refl);
      or_absorbs = each_2 (λ p q. either p (both p q) ≡ p) (λ q. refl) (each (λ q. either Lost (both Lost q) ≡ Lost) refl refl refl) (λ q. refl);
      and_over_or = each_3 (λ p q r. both p (either q r) ≡ either (both p q) (both p r)) (λ q r. refl) (each_2 (λ q r. both Lost (either q r) ≡ either (both Lost q) (both Lost r)) (λ r. refl) (each (λ r. both Lost (either Lost r) ≡ either Lost (both Lost r)) refl refl refl) (each (λ r. Lost ≡ either Lost (both Lost r)) refl refl refl)) (λ q r. refl);
      or_over_and = each_3 (λ p q r. either p (both q r) ≡ both (either p q) (either p r)) (λ q r. refl) (each_2 (λ q r. either Lost (both q r) ≡ both (either Lost q) (either Lost r)) (each (λ r. Lost ≡ both Lost (either Lost r)) refl refl refl) (each (λ r. either Lost (both Lost r) ≡ both Lost (either Lost r)) refl refl refl) (λ r. refl)) (λ q r. refl);
      and_yes = each (λ p. both p Yes ≡ p) refl refl refl;
      or_no = each (λ p. either p No ≡ p) refl refl refl;
      not_not = each (λ p. other (other p) ≡ p) refl refl refl;
      not_or = each_2 (λ p q. other (either p q) ≡ both (other p) (other q)) (λ q. refl) (each (λ q. other (either Lost q) ≡ both Lost (other q)) refl refl refl) (λ q. refl);
    }
  where
    each : (P : Ternary → Type 0) → P No → P Lost → P Yes → (p : Ternary) → P p
    each P a b c No = a
    each P a b c Lost = b
    each P a b c Yes = c

    each_2 : (P : Ternary → Ternary → Type 0) → ((q : Ternary) → P No q) → ((q : Ternary) → P Lost q) → ((q : Ternary) → P Yes q) → (p q : Ternary) → P p q
    each_2 P a b c No = a
    each_2 P a b c Lost = b
    each_2 P a b c Yes = c

    each_3 : (P : Ternary → Ternary → Ternary → Type 0) → ((q r : Ternary) → P No q r) → ((q r : Ternary) → P Lost q r) → ((q r : Ternary) → P Yes q r) → (p q r : Ternary) → P p q r
    each_3 P a b c No = a
    each_3 P a b c Lost = b
    each_3 P a b c Yes = c

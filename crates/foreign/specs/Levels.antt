-- Percent levels as a truth kind.
use Rattle.std.specs.Prelude.{◌≡◌, ℕ, ◌-◌, ◌≤◌, min, max}
use mathlib.Core.HLevel.{is_prop→PathP}
use Rattle.std.proofs.Math.Bridge.{le_prop}
use Rattle.std.proofs.Common.{arith}
use Rattle.recording.specs.Kind.{Kind}

-- a level of 0 to 100
pub record Percent : Type 0 where
  pub percent : ℕ
  pub small : percent ≤ 100

-- two levels of one percent are the same level
pub same : (p q : Percent) → p.percent ≡ q.percent → p ≡ q
same p q e = λ i. record { percent = e i; small = is_prop→PathP (λ j. e j ≤ 100) (λ j. le_prop) p.small q.small i }

-- the level that a byte means: one above 100 counts as 100
abbrev pub level : ℕ → Percent
level n = record { percent = min n 100; small = omega arith }

abbrev pub darker : Percent → Percent → Percent
darker p q = record { percent = min p.percent q.percent; small = omega arith }

abbrev pub brighter : Percent → Percent → Percent
brighter p q = record { percent = max p.percent q.percent; small = omega arith }

abbrev pub missing : Percent → Percent
missing p = record { percent = 100 - p.percent; small = omega arith }

abbrev pub levels : Kind
levels =
    record {
      Value = Percent;
      No = level 0;
      Yes = level 100;
      And = darker;
      Or = brighter;
      Not = missing;
      and_assoc = λ p q r. same _ _ (omega arith);
      and_comm = λ p q. same _ _ (omega arith);
      or_assoc = λ p q r. same _ _ (omega arith);
      or_comm = λ p q. same _ _ (omega arith);
      and_absorbs = λ p q. same _ _ (omega arith);
      or_absorbs = λ p q. same _ _ (omega arith);
      and_over_or = λ p q r. same _ _ (omega arith);
      or_over_and = λ p q r. same _ _ (omega arith);
      and_yes = λ p. same _ _ (omega arith);
      or_no = λ p. same _ _ (omega arith);
      not_not = λ p. same _ _ (omega arith);
      not_or = λ p q. same _ _ (omega arith);
    }

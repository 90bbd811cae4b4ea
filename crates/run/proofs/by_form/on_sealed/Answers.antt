use Rattle.std.proofs.Common.{rules, inl, inr, refl}
use Rattle.run.proofs.by_form.on_sealed.Goals as goal
use Rattle.run.proofs.by_form.on_sealed.Goals.{in-Translate, in-Judge, in-WriteOut, in-Write}

pub returns-clause-tells : goal.returns-clause-tells
returns-clause-tells g c =
    elim c.match-call.branch [
      | in-Translate w ↦ rw (w.in-Translate.is, w.answer-is, w.machine-is, w.cells-is, w.bits-is, w.rows-is) (search rules)
      | in-Judge w ↦ rw (w.in-Judge.is, w.answer-is, w.machine-is, w.cells-is, w.bits-is, w.rows-is) (search rules)
      | in-WriteOut w ↦ rw (w.in-WriteOut.is, w.answer-is, w.machine-is, w.cells-is, w.bits-is, w.rows-is) (search rules)
      | in-Write w ↦
          rw (w.answer-is, w.machine-is, w.cells-is, w.bits-is, w.rows-is)
          (elim w.in-Write.is [
            | inl e ↦ rw e.3 (refl, refl)
            | inr s ↦ elim s [
              | inl e ↦ rw e (refl, refl)
              | inr e ↦ rw e (refl, refl)
            ]
          ])
    ]

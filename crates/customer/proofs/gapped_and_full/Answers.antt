use Rattle.customer.proofs.Likes.{alike, last_machine}
use Rattle.customer.proofs.gapped_and_full.Goals as goal

pub returns : goal.returns
returns g c =
    record {
      alike = alike _ _ _ _ _ _ _ _ _ c.carry_out.ensures.story c.carry_out.ensures.law;
      machine = last_machine _ _ _ _ _ _ _ c.carry_out.ensures.story c.carry_out.ensures.law;
    }

use Rattle.std.proofs.Common.{length}
use Rattle.run.specs.Histories.{ledger_of}
use Rattle.customer.proofs.Firsts.{first_of}
use Rattle.customer.proofs.first_signal.Goals as goal

pub returns : goal.returns
returns g c =
    first_of _ _ (ledger_of c.new.result) c.new.ensures _ _ (length c.args.answers.now) c.carry_out.new.answers c.carry_out.ensures.story

use Rattle.std.proofs.Common.{arith}
use Rattle.plain.specs.Match.{run}
use Rattle.plain.proofs.Confirming.{confirmed_hold}
use Rattle.plain.proofs.Walks.{lists}
use Rattle.plain.proofs.agreement_laws.Goals as goal

pub returns : goal.returns
returns g c =
    record {
      agree = confirmed_hold;
      listed = λ r ts s n below near. lists r (run r ts) s n below (omega arith);
    }

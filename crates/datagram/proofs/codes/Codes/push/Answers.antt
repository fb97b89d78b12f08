use Rattle.std.proofs.Common.{arith}
use Rattle.datagram.proofs.Padded.{one_more}
use Rattle.datagram.proofs.codes.Codes.push.Goals as goal

pub invariant_of-self : goal.invariant_of-self
invariant_of-self c = one_more _ _ _ (omega arith) c.self.invariant

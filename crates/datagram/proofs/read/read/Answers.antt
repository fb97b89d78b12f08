use Rattle.datagram.proofs.Readings.{faithful}
use Rattle.datagram.proofs.read.read.Goals as goal

pub returns-clause-laws : goal.returns-clause-laws
returns-clause-laws c = faithful c.args.bytes.now _ (λ k. (c.type_inv.bytes k).fits) c.checked.ensures.answer

use Rattle.std.proofs.Common.{refl}
use Rattle.worked_cases.proofs.datagrams.worked_datagram.Goals as goal

pub returns : goal.returns
returns c = record { written = refl; taken = refl; altered = refl }

use Rattle.std.proofs.Common.{sym}
use Rattle.datagram.proofs.Pairs.{length_codes_of}
use Rattle.datagram.proofs.codes.Datagram+ref+slice+u8.count.Goals as goal

pub returns : goal.returns
returns c = sym (length_codes_of c.args.self.now.codes.now)

use Rattle.std.proofs.Common.{length, ap, arith}
use Rattle.datagram.specs.Meanings.{fields_of}
use Rattle.datagram.proofs.Readings.{length_bytes}
use Rattle.datagram.proofs.write.Datagram+Codes.length.Goals as goal

pub returns-clause-all : goal.returns-clause-all
returns-clause-all c =
    let count = ap length c.as_slice.ensures.codes in
    let all = length_bytes (fields_of c.args.self.now) in
    omega arith

use Rattle.std.proofs.Common.{Some, sym, ap, ◌∙◌, arith}
use Rattle.std.proofs.lemmas.Option.{slice_get_past}
use Rattle.datagram.specs.Reading.{codes_of}
use Rattle.datagram.proofs.Pairs.{length_codes_of, nth_codes_of}
use Rattle.datagram.proofs.codes.Datagram+ref+slice+u8.code.Goals as goal

pub returns-then-k-self : goal.returns-then-k-self
returns-then-k-self c =
    let bs = c.args.self.now.codes.now in
    let many = length_codes_of bs in
    sym (slice_get_past (codes_of bs) c.args.k (omega arith))

pub returns : goal.returns
returns c = ap Some c.from_le_bytes.ensures ∙ sym (nth_codes_of c.args.self.now.codes.now c.args.k (omega arith))

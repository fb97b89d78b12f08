use Rattle.std.proofs.Common.{◌+◌, ◌*◌, ◌^◌, ◌<◌, length, ap, ◌∙◌, subst, arith, rules}
use Rattle.std.specs.List.{AllByRecursion}
use Rattle.datagram.specs.Layout.{two_bytes, code_bytes}
use Rattle.datagram.specs.Meanings.{fields_of}
use Rattle.datagram.specs.Writing.{spliced}
use Rattle.datagram.proofs.Writings.{all_put, put_readable}
use Rattle.datagram.proofs.write.Datagram+Codes.put_all.Goals as goal

pub returns : goal.returns
returns c =
    let d = fields_of c.args.self.now in
    let old = c.args.buffer.now in
    let same = c.as_slice-codes.ensures.codes in
    let count = ap length same in
    let first = c.put.ensures ∙ ap (spliced old 0) c.header.ensures.bytes in
    let second = c.put_codes.ensures.bytes ∙ ap (λ cs. spliced c.put.new.buffer 19 (code_bytes cs)) same in
    let third = c.put-2.ensures ∙ ap (spliced c.put_codes.new.buffer (19 + 2 * length c.as_slice-codes.result.now)) (c.to_le_bytes.ensures ∙ ap two_bytes c.check_word-word.ensures) in
    let whole = all_put d old _ _ _ _ _ (ap (λ n. 19 + 2 * n) count) first second (search rules) third in
    record {
      bytes = whole;
      readable = put_readable d old _ (λ seat. record { sender = seat; numbers = c.header.ensures.fits; few = omega arith; codes = subst (AllByRecursion (λ n. n < 2 ^ 16)) same c.put_codes.ensures.fits }) whole;
    }

use Rattle.std.proofs.lemmas.Result.{err_from_is_err_and}
use Rattle.datagram.proofs.Parses.{refused_first}
use Rattle.datagram.proofs.read.checked.Goals as goal

pub returns-in_err-datagram-clause-answer : goal.returns-in_err-datagram-clause-answer
returns-in_err-datagram-clause-answer c =
    let p = err_from_is_err_and c.from_residual.result c.from_residual.ensures.1 in
    rw (p.1, p.2) (refused_first c.args.bytes.now c.in_err-datagram.field-0.0 c.in_err-datagram.ensures.answer)

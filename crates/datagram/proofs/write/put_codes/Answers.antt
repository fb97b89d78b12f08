use Rattle.std.proofs.Common.{◌^◌, ◌<◌, arith}
use Rattle.std.proofs.ByRecursion.{All-from_get_or}
use Rattle.datagram.proofs.Buffers.{codes_more}
use Rattle.datagram.proofs.write.put_codes.Goals as goal

pub loop-k-preserved : goal.loop-k-preserved
loop-k-preserved c = codes_more c.args.buffer.now c.args.codes.now c.args.at c.loop-k.k c.loop-k.buffer _ _ c.loop-k-test.true (omega arith) c.to_le_bytes.ensures c.loop-k.invariant c.put.ensures

pub returns-clause-fits : goal.returns-clause-fits
returns-clause-fits c = All-from_get_or (λ n. n < 2 ^ 16) c.args.codes.now 0 (λ k _. (c.type_inv.codes k).fits)

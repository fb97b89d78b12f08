use Rattle.std.proofs.Common.{◌≡◌, take}
use Rattle.datagram.specs.Layout.{code_bytes}
use Rattle.datagram.specs.Writing.{spliced}
use Rattle.datagram.proofs.write.put_codes.Given as goal

-- the codes before code k are there
abbrev pub invariant-loop-k : goal.invariant-loop-k
invariant-loop-k l = l.buffer ≡ spliced l.initial.buffer l.at (code_bytes (take l.k l.codes))

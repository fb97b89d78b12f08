use Rattle.std.proofs.Common.{◌≡◌, ◌+◌, ◌%◌, drop}
use Rattle.datagram.specs.Layout.{weighted, check_word}
use Rattle.datagram.proofs.check.check_word.Given as goal

-- the sum so far and what is left of it give the whole
abbrev pub invariant-loop-i : goal.invariant-loop-i
invariant-loop-i l = (l.sum + weighted l.i (drop l.i l.bytes)) % 65536 ≡ check_word l.bytes

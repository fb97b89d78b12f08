use Rattle.std.proofs.Common.{◌≡◌}
use Rattle.rollback.specs.Meanings.{codes_in}
use Rattle.seat.specs.Calls.{all_read}
use Rattle.seat.proofs.take.all_read.Given as goal

-- the codes that are left all read if all do
abbrev pub invariant-loop-code : goal.invariant-loop-code
invariant-loop-code g l = all_read g.I.InputKind.reads l.code-iterator ≡ all_read g.I.InputKind.reads (codes_in l.fn.datagram)

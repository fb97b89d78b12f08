use Rattle.std.proofs.Common.{refl}
use Rattle.std.proofs.Output.{has_written_of_eq}
use Rattle.trace.proofs.Verdicts.{seat_decimal}
use Rattle.trace.proofs.write.TraceTurnDisplay.fmt.Goals as goal

pub returns-in-Press-clause-writes : goal.returns-in-Press-clause-writes
returns-in-Press-clause-writes g c = λ p ok. has_written_of_eq _ _ _ _ _ (rw (c.from-seat.ensures, seat_decimal, c.in-Press.is) refl) (c.write.ensures.writes p ok)

pub returns-in-Send-clause-writes : goal.returns-in-Send-clause-writes
returns-in-Send-clause-writes g c = λ p ok. has_written_of_eq _ _ _ _ _ (rw (c.from-seat.ensures, seat_decimal, c.in-Send.is) refl) (c.write-in-Send.ensures.writes p ok)

pub returns-in-Take-clause-writes : goal.returns-in-Take-clause-writes
returns-in-Take-clause-writes g c = λ p ok. has_written_of_eq _ _ _ _ _ (rw (c.from-seat.ensures, seat_decimal, c.in-Take.is) refl) (c.write-in-Take.ensures.writes p ok)

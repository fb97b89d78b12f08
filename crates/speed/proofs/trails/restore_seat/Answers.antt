use Rattle.std.proofs.Common.{refl}
use Rattle.speed.specs.Trails.{seat_back}
use Rattle.speed.proofs.Numbers.{seat_tag}
use Rattle.speed.proofs.trails.restore_seat.Goals as goal

pub returns : goal.returns
unfolding seat_back
returns c = rw (seat_tag c.args.seat) refl

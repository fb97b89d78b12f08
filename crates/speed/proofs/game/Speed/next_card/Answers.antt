use Rattle.std.proofs.Common.{arith}
use Rattle.speed.specs.Places.{seat_number}
use Rattle.speed.proofs.Sound.{sound_of, draws_le}
use Rattle.speed.proofs.Numbers.{seat_tag, seat_lt}
use Rattle.speed.proofs.game.Speed.next_card.Goals as goal

pub overflow_sub-result : goal.overflow_sub-result
overflow_sub-result c =
    let few = draws_le c.args.self.now.words (sound_of c.args.self.now) (seat_number c.args.seat) (seat_lt c.args.seat) in
    rw (seat_tag c.args.seat) (omega arith)

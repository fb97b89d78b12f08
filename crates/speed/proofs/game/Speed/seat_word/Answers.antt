use Rattle.std.proofs.Common.{arith}
use Rattle.speed.proofs.Backs.{seat_trail_lt}
use Rattle.speed.proofs.game.Speed.seat_word.Goals as goal

pub overflow_mul-result : goal.overflow_mul-result
overflow_mul-result c = omega (arith, seat_trail_lt c.args.self.now c.args.seat c.args.choice _ c.changed_slot-slot.ensures)

pub overflow_add-result-2 : goal.overflow_add-result-2
overflow_add-result-2 c = omega (arith, seat_trail_lt c.args.self.now c.args.seat c.args.choice _ c.changed_slot-slot.ensures)

pub overflow_mul-result-2 : goal.overflow_mul-result-2
overflow_mul-result-2 c = omega (arith, seat_trail_lt c.args.self.now c.args.seat c.args.choice _ c.changed_slot-slot.ensures)

pub overflow_add-result-3 : goal.overflow_add-result-3
overflow_add-result-3 c = omega (arith, seat_trail_lt c.args.self.now c.args.seat c.args.choice _ c.changed_slot-slot.ensures)

pub overflow_mul-result-3 : goal.overflow_mul-result-3
overflow_mul-result-3 c = omega (arith, seat_trail_lt c.args.self.now c.args.seat c.args.choice _ c.changed_slot-slot.ensures)

pub overflow_add-result-4 : goal.overflow_add-result-4
overflow_add-result-4 c = omega (arith, seat_trail_lt c.args.self.now c.args.seat c.args.choice _ c.changed_slot-slot.ensures)

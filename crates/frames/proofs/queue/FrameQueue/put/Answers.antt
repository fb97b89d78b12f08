use Rattle.std.proofs.Common.{arith}
use Rattle.std.proofs.lemmas.Bool.Decides.{nat_tests}
use Rattle.frames.proofs.Held.{held_after}
use Rattle.frames.proofs.queue.FrameQueue.put.Goals as goal

pub returns : goal.returns
returns g c =
    record {
      answer = grind (arith, nat_tests);
      next = grind (arith, nat_tests);
      slots = grind (arith, nat_tests);
      reads = λ _. held_after c.args.slots.now c.args.self.now.next c.args.frame c.args.value c.max-self.result c.max-self.ensures (omega arith) (grind (arith, nat_tests)) (grind (arith, nat_tests));
    }

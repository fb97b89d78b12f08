use Rattle.std.proofs.Common.{◌+◌, arith}
use Rattle.rollback.specs.Inputs.{setting}
use Rattle.rollback.specs.Meanings.{inputs_of}
use Rattle.rollback.proofs.Puts.{may_from, next_from}
use Rattle.rollback.proofs.Steps.{frame_made}
use Rattle.rollback.proofs.replaying.play_frame.Goals as goal

pub returns : goal.returns
returns g c =
    let s = setting g.G.Game.next g.G.Input.InputKind.idle g.G.Input.InputKind.reads g.G.Input.InputKind.code g.H.GuessRule.guessed in
    let may = may_from c.args.slots.now c.args.digests.now.next (c.args.frame + 1) c.requires.whole (omega (arith, c.requires.low)) (omega (arith, c.requires.near)) (omega (arith, c.requires.top)) in
    record {
      kept = frame_made s c.args.second (inputs_of c.args.inputs.now) c.args.frame _ _ _ _ c.pair_at-own.result c.in_order-first.result c.digest.result _ c.pair_at-own.ensures c.in_order-first.ensures c.advance.ensures c.digest.ensures may c.put.ensures.slots;
      next = next_from c.args.digests.now.next c.put.new.self.next c.args.frame _ may c.put.ensures.next;
    }

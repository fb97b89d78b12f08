use Rattle.std.proofs.Common.{arith}
use Rattle.keepers.proofs.Redone.{paid_one}
use Rattle.keepers.proofs.replaying.pay_off.Goals as goal

pub loop-first-preserved : goal.loop-first-preserved
loop-first-preserved g c =
    paid_one g.G.Game.next c.loop-first.debt.owed c.replay.new.debt.owed c.args.first c.args.second _ _ _ (omega arith) c.replay.ensures.debt c.replay.ensures.states c.loop-first.invariant

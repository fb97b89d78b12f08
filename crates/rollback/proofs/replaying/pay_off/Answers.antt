use Rattle.std.proofs.Common.{sym, refl, ◌∙◌, arith}
use Rattle.rollback.proofs.Steps.{owing_less, frames_none}
use Rattle.rollback.proofs.replaying.pay_off.Goals as goal

pub loop-frame-init : goal.loop-frame-init
loop-frame-init g c = record { place = refl; start = omega arith; same = refl; long = c.requires.whole; left = refl }

pub replay_frame-requires : goal.replay_frame-requires
replay_frame-requires g c =
    let place = c.loop-frame.invariant.place in
    let same = c.loop-frame.invariant.same in
    let start = c.loop-frame.invariant.start in
    record { owed = omega arith; whole = c.loop-frame.invariant.long; low = omega arith; near = omega arith; top = omega arith }

pub loop-frame-preserved : goal.loop-frame-preserved
loop-frame-preserved g c =
    owing_less _ _ _ _ _ _ _ _ _ _ _ _ _ _ c.loop-frame.invariant (omega arith) c.requires.low c.replay_frame.ensures.debt c.replay_frame.ensures.next (c.replay_frame.auto.slots ∙ c.loop-frame.invariant.long) c.replay_frame.ensures.kept

pub returns : goal.returns
returns g c =
    record {
      kept = sym (frames_none _ _ _ _ _ _ (omega arith)) ∙ c.loop-frame.invariant.left;
      next = c.loop-frame.invariant.same;
    }

pub drop-debt-requires : goal.drop-debt-requires
drop-debt-requires g c =
    let place = c.loop-frame.invariant.place in
    omega arith

use Rattle.refine.specs.Setup.{setup}
use Rattle.refine.specs.Memory.{slot_lists, own_lent, fronts}
use Rattle.play.specs.Turns.{step_of}
use Rattle.play.proofs.Fronts.{lent_answers, lent_leaves}
use Rattle.play.proofs.step.make_turn.Goals as goal

pub returns : goal.returns
returns g c =
    record {
      leaves = λ opening rest. lent_leaves g.K0.Keeper.kept g.K1.Keeper.kept (setup opening g.G.Game.next g.G.Input.InputKind.idle g.G.Input.InputKind.reads g.G.Input.InputKind.code g.H0.GuessRule.guessed g.H1.GuessRule.guessed) c.args.game.now c.make_call.new.game (step_of c.args.turn) (slot_lists c.args.own.now c.args.other.now c.args.digests.now) (slot_lists c.make_call.new.own c.make_call.new.other c.make_call.new.digests) rest c.args.log.now c.make_call.new.log c.make_call.result.0 c.make_call.result.1 c.min-own_slots.result c.min-other_slots.result c.min-digest_slots.result c.min-records.result c.min-own_slots.ensures c.min-other_slots.ensures c.min-digest_slots.ensures c.min-records.ensures (c.make_call.ensures opening (fronts own_lent rest)).leaves;
      answers = λ opening rest. lent_answers g.K0.Keeper.kept g.K1.Keeper.kept (setup opening g.G.Game.next g.G.Input.InputKind.idle g.G.Input.InputKind.reads g.G.Input.InputKind.code g.H0.GuessRule.guessed g.H1.GuessRule.guessed) c.args.game.now c.make_call.new.game (step_of c.args.turn) (slot_lists c.args.own.now c.args.other.now c.args.digests.now) (slot_lists c.make_call.new.own c.make_call.new.other c.make_call.new.digests) rest c.args.log.now c.make_call.new.log c.make_call.result.0 c.make_call.result.1 c.min-own_slots.result c.min-other_slots.result c.min-digest_slots.result c.min-records.result c.min-own_slots.ensures c.min-other_slots.ensures c.min-digest_slots.ensures c.min-records.ensures (c.make_call.ensures opening (fronts own_lent rest)).leaves;
    }

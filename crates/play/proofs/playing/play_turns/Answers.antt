use Rattle.std.proofs.Common.{[], length}
use Rattle.refine.specs.Setup.{setup}
use Rattle.refine.specs.Memory.{slot_lists}
use Rattle.match_engine.specs.Log.{entries}
use Rattle.match_engine.specs.Meaning.{whole_memory}
use Rattle.play.proofs.Going.{goes, ends, below, at_end}
use Rattle.play.proofs.playing.play_turns.Goals as goal

pub bounds-told-i : goal.bounds-told-i
bounds-told-i g c = below c.loop-i.i (length c.args.turns.now) (length c.args.told.now) (length c.loop-i.told) c.loop-i-test.true c.requires.room c.loop-i.auto.told

pub loop-i-preserved : goal.loop-i-preserved
loop-i-preserved g c opening =
    goes (setup opening g.G.Game.next g.G.Input.InputKind.idle g.G.Input.InputKind.reads g.G.Input.InputKind.code g.H0.GuessRule.guessed g.H1.GuessRule.guessed) (whole_memory g.K0.Keeper.kept g.K1.Keeper.kept c.args.game.now (slot_lists c.args.own_0.now c.args.other_0.now c.args.digests_0.now) (slot_lists c.args.own_1.now c.args.other_1.now c.args.digests_1.now) (entries c.args.log.now)) (whole_memory g.K0.Keeper.kept g.K1.Keeper.kept c.loop-i.game (slot_lists c.loop-i.own_0 c.loop-i.other_0 c.loop-i.digests_0) (slot_lists c.loop-i.own_1 c.loop-i.other_1 c.loop-i.digests_1) (entries c.loop-i.log)) (whole_memory g.K0.Keeper.kept g.K1.Keeper.kept c.step.new.game (slot_lists c.step.new.own_0 c.step.new.other_0 c.step.new.digests_0) (slot_lists c.step.new.own_1 c.step.new.other_1 c.step.new.digests_1) (entries c.step.new.log)) c.args.turns.now c.loop-i.i c.args.told.now c.loop-i.told _ c.step.result c.loop-i-test.true (below c.loop-i.i (length c.args.turns.now) (length c.args.told.now) (length c.loop-i.told) c.loop-i-test.true c.requires.room c.loop-i.auto.told) (c.step.ensures.leaves opening) (c.step.ensures.told opening) (c.loop-i.invariant opening)

pub returns : goal.returns
returns g c =
    record {
      leaves = λ opening. (ends (setup opening g.G.Game.next g.G.Input.InputKind.idle g.G.Input.InputKind.reads g.G.Input.InputKind.code g.H0.GuessRule.guessed g.H1.GuessRule.guessed) (whole_memory g.K0.Keeper.kept g.K1.Keeper.kept c.args.game.now (slot_lists c.args.own_0.now c.args.other_0.now c.args.digests_0.now) (slot_lists c.args.own_1.now c.args.other_1.now c.args.digests_1.now) (entries c.args.log.now)) (whole_memory g.K0.Keeper.kept g.K1.Keeper.kept c.loop-i.game (slot_lists c.loop-i.own_0 c.loop-i.other_0 c.loop-i.digests_0) (slot_lists c.loop-i.own_1 c.loop-i.other_1 c.loop-i.digests_1) (entries c.loop-i.log)) c.args.turns.now c.loop-i.i c.args.told.now c.loop-i.told (at_end c.loop-i.i (length c.args.turns.now) c.loop-i-test.false c.loop-i.auto.i-end) (c.loop-i.invariant opening)).0;
      tells = λ opening. (ends (setup opening g.G.Game.next g.G.Input.InputKind.idle g.G.Input.InputKind.reads g.G.Input.InputKind.code g.H0.GuessRule.guessed g.H1.GuessRule.guessed) (whole_memory g.K0.Keeper.kept g.K1.Keeper.kept c.args.game.now (slot_lists c.args.own_0.now c.args.other_0.now c.args.digests_0.now) (slot_lists c.args.own_1.now c.args.other_1.now c.args.digests_1.now) (entries c.args.log.now)) (whole_memory g.K0.Keeper.kept g.K1.Keeper.kept c.loop-i.game (slot_lists c.loop-i.own_0 c.loop-i.other_0 c.loop-i.digests_0) (slot_lists c.loop-i.own_1 c.loop-i.other_1 c.loop-i.digests_1) (entries c.loop-i.log)) c.args.turns.now c.loop-i.i c.args.told.now c.loop-i.told (at_end c.loop-i.i (length c.args.turns.now) c.loop-i-test.false c.loop-i.auto.i-end) (c.loop-i.invariant opening)).1;
      later = (c.loop-i.invariant []).later;
    }

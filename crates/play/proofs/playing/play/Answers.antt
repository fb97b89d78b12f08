use Rattle.std.proofs.Common.{sym}
use Rattle.refine.specs.Setup.{setup}
use Rattle.refine.specs.Memory.{slot_lists}
use Rattle.refine.specs.Laws.{opened}
use Rattle.match_engine.specs.Log.{entries}
use Rattle.match_engine.specs.Meaning.{whole_memory}
use Rattle.play.proofs.Wholes.{accepts, played, promised}
use Rattle.play.proofs.playing.play.Goals as goal

pub returns : goal.returns
returns g c =
    let opening = g.G.Game.opening c.args.seed in
    let a = setup opening g.G.Game.next g.G.Input.InputKind.idle g.G.Input.InputKind.reads g.G.Input.InputKind.code g.H0.GuessRule.guessed g.H1.GuessRule.guessed in
    let x = slot_lists c.args.first.own.now c.args.first.other.now c.args.first.digests.now in
    let y = slot_lists c.args.second.own.now c.args.second.other.now c.args.second.digests.now in
    let n = c.args.match_number in
    let log = entries c.args.log.now in
    let last = whole_memory g.K0.Keeper.kept g.K1.Keeper.kept c.play_turns.new.game (slot_lists c.play_turns.new.own_0 c.play_turns.new.other_0 c.play_turns.new.digests_0) (slot_lists c.play_turns.new.own_1 c.play_turns.new.other_1 c.play_turns.new.digests_1) (entries c.play_turns.new.log) in
    let hx = sym c.if-not-are_enough.ensures in
    let hy = sym c.if-not-are_enough-2.ensures in
    record {
      answer = accepts x y c.args.turns.now c.args.told.now hx hy c.if-told-turns.false;
      leaves = played a (opened opening n x y log) _ last c.args.turns.now c.args.told.now c.play_turns.new.told (c.open_fronts-game.ensures log) (c.play_turns.ensures.leaves opening) (c.play_turns.ensures.tells opening) c.play_turns.ensures.later;
      promise = promised a (record { fits = g.met.G.Input.InputKind.code_fits; reads_back = g.met.G.Input.InputKind.reads_back }) n x y c.args.log.now c.ranges.match_number.fits hx hy;
    }

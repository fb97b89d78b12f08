use Rattle.interface.specs.Games.{State}
use Rattle.refine.specs.Setup.{setup}
use Rattle.refine.specs.Memory.{slot_lists}
use Rattle.match_engine.specs.Log.{entries}
use Rattle.match_engine.specs.Meaning.{whole_memory}
use Rattle.play.proofs.Going.{Going}
use Rattle.play.proofs.playing.play_turns.Given as goal

abbrev pub invariant-loop-i : goal.invariant-loop-i
invariant-loop-i g l =
    (opening : State) → Going (setup opening g.G.Game.next g.G.Input.InputKind.idle g.G.Input.InputKind.reads g.G.Input.InputKind.code g.H0.GuessRule.guessed g.H1.GuessRule.guessed) (whole_memory g.K0.Keeper.kept g.K1.Keeper.kept l.initial.game (slot_lists l.initial.own_0 l.initial.other_0 l.initial.digests_0) (slot_lists l.initial.own_1 l.initial.other_1 l.initial.digests_1) (entries l.initial.log)) (whole_memory g.K0.Keeper.kept g.K1.Keeper.kept l.game (slot_lists l.own_0 l.other_0 l.digests_0) (slot_lists l.own_1 l.other_1 l.digests_1) (entries l.log)) l.turns l.i l.initial.told l.told

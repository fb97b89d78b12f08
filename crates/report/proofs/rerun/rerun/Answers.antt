use Rattle.std.proofs.Common.{[], ap, ◌∙◌}
use Rattle.std.proofs.lemmas.Result.{MatchResult-at_ok}
use Rattle.refine.specs.Setup.{setup}
use Rattle.refine.specs.Memory.{slot_lists}
use Rattle.match_engine.specs.Meaning.{whole_slots}
use Rattle.report.proofs.Reruns.{reran, end_as}
use Rattle.report.proofs.rerun.rerun.Goals as goal

pub returns-clause-told : goal.returns-clause-told
returns-clause-told g c =
    let a = setup (g.G.Game.opening c.args.seed) g.G.Game.next g.G.Input.InputKind.idle g.G.Input.InputKind.reads g.G.Input.InputKind.code g.H0.GuessRule.guessed g.H1.GuessRule.guessed in
    let x = slot_lists c.lend.result.own.now c.lend.result.other.now c.lend.result.digests.now in
    let y = slot_lists c.lend-2.result.own.now c.lend-2.result.other.now c.lend-2.result.digests.now in
    let whole_0 = ap whole_slots (c.lend.ensures ∙ c.in_ok-first.ensures) in
    let whole_1 = ap whole_slots (c.lend-2.ensures ∙ c.in_ok-second.ensures) in
    reran a c.args.match_number x y c.args.log.now whole_0 whole_1 c.args.turns.now c.args.told.now c.play.new.told _ (MatchResult-at_ok _ _ c.unwrap-game.result c.unwrap-game.ensures c.play.ensures.leaves) (MatchResult-at_ok _ _ c.unwrap-game.result c.unwrap-game.ensures c.play.ensures.promise) (c.end_of.result, c.end_of-2.result)
    (end_as g.K0.Keeper.kept _ c.unwrap-game.result.first c.play.new.first.0 c.play.new.first.1.0 c.play.new.first.1.1.0 c.end_of.result c.first.ensures (c.end_of.ensures [] [] []))
    (end_as g.K1.Keeper.kept _ c.unwrap-game.result.second c.play.new.second.0 c.play.new.second.1.0 c.play.new.second.1.1.0 c.end_of-2.result c.second.ensures (c.end_of-2.ensures [] [] []))

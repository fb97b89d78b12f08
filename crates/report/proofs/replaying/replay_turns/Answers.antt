use Rattle.std.proofs.Common.{length, ◌∙◌}
use Rattle.refine.specs.Setup.{setup, rules}
use Rattle.report.proofs.Replays.{replay_told}
use Rattle.report.proofs.replaying.replay_turns.Goals as goal

pub returns-clause-told : goal.returns-clause-told
returns-clause-told g c =
    let a = setup (g.G.Game.opening c.args.first.seed) g.G.Game.next g.G.Input.InputKind.idle g.G.Input.InputKind.reads g.G.Input.InputKind.code g.H0.GuessRule.guessed g.H1.GuessRule.guessed in
    replay_told (rules a) (length c.args.log.now) c.args.turns.now c.deref.result.now c.in_ok-lines.lines c.rerun.new.told (c.in_ok-first.first, c.in_ok-first.second) (c.deref.ensures.value ∙ c.in_ok-lent.ensures) (c.rerun.auto.told ∙ c.deref_mut.ensures.len) c.in_ok-lines.ensures.len c.in_ok-first.ensures.told

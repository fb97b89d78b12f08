use Rattle.std.proofs.Common.{arith, rules}
use Rattle.std.proofs.lemmas.Grind.{common_steps}
use Rattle.keepers.proofs.Redone.{same_again}
use Rattle.keepers.proofs.replaying.go_back_and_replay.Goals as goal

pub returns-in_err-debt-clause-again : goal.returns-in_err-debt-clause-again
returns-in_err-debt-clause-again g c = same_again g.G.Game.next c.args.inputs.now (g.K.Keeper.kept c.args.keeper.now).states _ _ (search rules) (search rules)

pub returns-clause-again : goal.returns-clause-again
returns-clause-again g c = same_again g.G.Game.next c.args.inputs.now (g.K.Keeper.kept c.args.keeper.now).states _ _ (search rules) (grind (arith, common_steps))

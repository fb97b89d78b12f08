use Rattle.std.proofs.Common.{◌≡◌}
use Rattle.worked_cases.proofs.keeper_scripts.agree.Given as goal

-- both list the same states
abbrev pub invariant-loop-step : goal.invariant-loop-step
invariant-loop-step g l = (g.A.Keeper.kept l.left).states ≡ (g.B.Keeper.kept l.right).states

use Rattle.std.proofs.Common.{◌≡◌}
use Rattle.keepers.specs.Replaying.{repeated}
use Rattle.keepers.proofs.replaying.pay_off.Given as goal

-- what is still owed, stepped from here, is all of it, stepped from the start
abbrev pub invariant-loop-first : goal.invariant-loop-first
invariant-loop-first g l =
    let next = g.G.Game.next in
    repeated next l.debt.owed l.first l.second (g.K.Keeper.kept l.keeper).states
    ≡ repeated next l.initial.debt.owed l.first l.second (g.K.Keeper.kept l.initial.keeper).states

abbrev pub decreases-loop-first : goal.decreases-loop-first
decreases-loop-first g l = l.debt.owed

use Rattle.std.proofs.Common.{◌≡◌, ◌+◌, length, drop}
use Rattle.interface.specs.Keepers.{replayed}
use Rattle.keepers.proofs.replaying.go_back_and_replay.Given as goal

-- what is owed is what is left, and stepping through what is left gives what stepping through all gives
abbrev pub invariant-loop-first : goal.invariant-loop-first
invariant-loop-first g l =
    (l.debt.owed + l.first-index ≡ length l.inputs)
    × (replayed g.G.Game.next (g.K.Keeper.kept l.keeper).states (drop l.first-index l.inputs) ≡ replayed g.G.Game.next (g.K.Keeper.kept l.initial.keeper).states l.inputs)

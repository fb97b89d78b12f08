use Rattle.std.proofs.Common.{◌≡◌, drop, Some}
use Rattle.keepers.specs.Rings.{items}
use Rattle.keepers.specs.Keeping.{reached}
use Rattle.keepers.proofs.trails.TrailsKeeper.go_back.Given as goal

-- the states still to be reached are those left of the list
abbrev pub invariant-loop-k : goal.invariant-loop-k
invariant-loop-k g l =
    reached g.G.Game.undone (Some (g.G.Game.words l.game)) (drop l.k (items l.self.trails))
    ≡ drop l.k (reached g.G.Game.undone (Some (g.G.Game.words l.self.game)) (items l.self.trails))

use Rattle.std.proofs.Common.{◌≡◌, ◌+◌, ◌%◌, ◌^◌, ◌<◌, drop}
use Rattle.interface.specs.Digest.{weighted, digest_of}
use Rattle.interface.proofs.digest.digest.Given as goal

-- the sum so far and what is left of it give the whole
abbrev pub invariant-loop-k : goal.invariant-loop-k
invariant-loop-k g l =
    let ws = g.G.Game.words l.game in
    (l.sum < 2 ^ 32) × ((l.sum + weighted l.k (drop l.k ws)) % 2 ^ 32 ≡ digest_of ws)

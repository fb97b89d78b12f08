use Rattle.std.proofs.Common.{◌≡◌, ◌+◌, ◌*◌, drop, Some, ap, arith}
use Rattle.std.specs.List.{slice_get}
use Rattle.interface.specs.Digest.{weighted}
use Rattle.interface.proofs.Places.{drop_from_slice_get}
use Rattle.interface.proofs.digest.digest.Goals as goal

-- one word more
pub loop-k-preserved : goal.loop-k-preserved
loop-k-preserved g c =
    let ws = g.G.Game.words c.args.game.now in
    let k = c.loop-k.k in
    let w = c.unwrap-word.result in
    let there : slice_get ws k ≡ Some w = cc in
    let split : weighted k (drop k ws) ≡ (2 * k + 1) * w + weighted (k + 1) (drop (k + 1) ws) = ap (weighted k) (drop_from_slice_get ws k w there) in
    omega arith

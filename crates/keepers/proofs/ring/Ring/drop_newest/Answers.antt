use Rattle.std.proofs.Common.{arith}
use Rattle.keepers.proofs.Around.{around_dropped}
use Rattle.keepers.proofs.ring.Ring.drop_newest.Goals as goal

pub returns : goal.returns
returns g c =
    let r = c.args.self.now in
    around_dropped r.places r.newest r.count c.min-gone.result _ (omega arith) r.inside r.few c.min-gone.ensures

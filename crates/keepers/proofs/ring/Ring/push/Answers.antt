use Rattle.std.proofs.Common.{refl, arith}
use Rattle.keepers.proofs.Around.{around_pushed}
use Rattle.keepers.proofs.ring.Ring.push.Goals as goal

pub returns : goal.returns
returns g c =
    let r = c.args.self.now in
    around_pushed r.places r.newest r.count _ c.min-self.result c.args.value (omega arith) r.inside r.few refl c.min-self.ensures

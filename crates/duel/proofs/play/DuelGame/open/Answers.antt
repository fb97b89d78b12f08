use Rattle.std.proofs.Common.{◌*◌, ◌/◌, [], ◌∷◌, ap, arith}
use Rattle.duel.proofs.Opening.{lower_walls}
use Rattle.duel.proofs.play.DuelGame.open.Goals as goal

pub returns : goal.returns
returns c =
    let lower = lower_walls c.args.seed c.rotate_left.result (omega arith) c.rotate_left.ensures in
    ap (λ w. 0 ∷ 0 ∷ 2 ∷ 0 ∷ 7 ∷ 7 ∷ 4 ∷ 0 ∷ c.args.seed / 2 * 2 ∷ w ∷ []) lower

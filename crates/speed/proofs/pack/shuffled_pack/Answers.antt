use Rattle.std.proofs.Common.{◌≡◌, ◌-◌, length, sym, ap, ◌∙◌, arith}
use Rattle.speed.specs.Lawful.{permutation}
use Rattle.speed.specs.Opening.{order_of, shuffled_from}
use Rattle.speed.proofs.Deals.{order_permutation, shuffle_step, shuffle_done, pack_long}
use Rattle.speed.proofs.pack.shuffled_pack.Goals as goal

pub loop-i-init : goal.loop-i-init
unfolding order_of
loop-i-init c =
    (ap length c.sorted_pack-order.ensures ∙ pack_long, ap (shuffled_from 51 c.args.seed) c.sorted_pack-order.ensures)

pub loop-i-preserved : goal.loop-i-preserved
loop-i-preserved c =
    (c.swap.ensures.len ∙ c.loop-i.invariant.0, ap (shuffled_from (c.loop-i.i - 1 - 1) _) c.swap.ensures.after ∙ (sym (shuffle_step c.loop-i.i c.loop-i.z c.loop-i.order c.loop-i-test.true) ∙ c.loop-i.invariant.1))

pub returns : goal.returns
returns c =
    let last : c.loop-i.i - 1 ≡ 0 = omega arith in
    let whole : c.loop-i.order ≡ order_of c.args.seed = shuffle_done (c.loop-i.i - 1) c.loop-i.z c.loop-i.order last ∙ c.loop-i.invariant.1 in
    record { order = whole; permutation = ap permutation whole ∙ order_permutation c.args.seed }

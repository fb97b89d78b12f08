use Rattle.std.proofs.Common.{arith}
use Rattle.speed.proofs.Deals.{put_wide, deal_is}
use Rattle.speed.proofs.pack.deal.Goals as goal

pub slice_bounds-words-end-3 : goal.slice_bounds-words-end-3
slice_bounds-words-end-3 c = omega (arith, put_wide c.copy_from_slice.new.self c.copy_from_slice-2.new.self c.copy_from_slice.ensures.len c.copy_from_slice-2.ensures.len)

pub returns : goal.returns
returns c = deal_is c.args.order.now _ _ _ (omega arith) c.copy_from_slice.ensures.after c.copy_from_slice-2.ensures.after c.copy_from_slice-3.ensures.after

use Rattle.std.proofs.Common.{◌≡◌, ◌-◌, length}
use Rattle.speed.specs.Opening.{shuffled_from, order_of}
use Rattle.speed.proofs.pack.shuffled_pack.Given as goal

-- the exchanges left give the whole shuffle
abbrev pub invariant-loop-i : goal.invariant-loop-i
invariant-loop-i l = (length l.order ≡ 52) × (shuffled_from (l.i - 1) l.z l.order ≡ order_of l.seed)

use Rattle.std.proofs.Common.{◌≡◌, drop, Some}
use Rattle.speed.specs.Marks.{marked}
use Rattle.speed.proofs.lawful.mark.Given as goal

-- the set so far and the cards left give the whole set
abbrev pub invariant-loop-card : goal.invariant-loop-card
invariant-loop-card l = marked (Some l.seen) (drop l.card-index l.cards) ≡ marked (Some l.fn.seen) l.cards

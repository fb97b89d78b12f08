use Rattle.std.proofs.Common.{◌≡◌, ◌++◌, map, Ok, vec_items}
use Rattle.trace.specs.Ahead.{items_ahead}
use Rattle.trace.proofs.read.read_turns.Given as goal

-- the turns so far and what is ahead are all
abbrev pub invariant-loop-turn : goal.invariant-loop-turn
invariant-loop-turn l = map (λ t. Ok t) (vec_items l.turns) ++ items_ahead l.turn-iterator ≡ items_ahead l.fn.reader

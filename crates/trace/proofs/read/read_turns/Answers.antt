use Rattle.std.proofs.Common.{◌∷◌, vec_items, ap, ◌∙◌}
use Rattle.trace.specs.Ahead.{ahead, items_ahead}
use Rattle.trace.proofs.Readings.{taken_fault, taken_all}
use Rattle.trace.proofs.read.read_turns.Goals as goal

pub returns-in-Err : goal.returns-in-Err
returns-in-Err c =
    let more = items_ahead c.next.new.self in
    taken_fault (vec_items c.loop-turn.turns) c.in-Err.fault more (items_ahead c.loop-turn.turn-iterator) (ahead c.args.reader) (c.in-Some.ensures.steps ∙ ap (λ x. x ∷ more) c.in-Err.is) c.loop-turn.invariant

pub returns : goal.returns
returns c = taken_all (vec_items c.loop-turn.turns) (items_ahead c.loop-turn.turn-iterator) (ahead c.args.reader) c.in-None.ensures.steps.0 c.loop-turn.invariant

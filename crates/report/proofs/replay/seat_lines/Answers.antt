use Rattle.std.proofs.Common.{true, false, vec_items}
use Rattle.report.proofs.Replays.{line_is}
use Rattle.report.proofs.replay.seat_lines.Goals as goal

pub returns : goal.returns
returns c =
    let x = c.args.replayed.now in
    let first = line_is x.first false c.args.turns.now (vec_items x.lines) c.deref.result.now c.total_of.result c.total_of.ensures c.deref.ensures.value in
    let second = line_is x.second true c.args.turns.now (vec_items x.lines) c.deref-2.result.now c.total_of-2.result c.total_of-2.ensures c.deref-2.ensures.value in
    λ i. (first i, second i)

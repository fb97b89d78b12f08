use Rattle.std.proofs.Common.{◌∙◌}
use Rattle.seat.proofs.Checks.{or_ok, or_err, answered_by, accepted_by}
use Rattle.seat.proofs.state.Seat.press.Goals.{in-Ok, in-Err}
use Rattle.seat.proofs.state.Seat.press.Goals as goal

pub returns-clause-answer : goal.returns-clause-answer
returns-clause-answer g c =
    elim c.match-try_press.branch [
      | in-Ok w ↦ w.result-is ∙ w.number.ensures ∙ accepted_by _ (or_ok _ _ _ w.in-Ok.ensures.answer).0
      | in-Err w ↦ w.result-is ∙ answered_by _ _ _ (or_err _ _ _ w.in-Err.ensures.answer) w.number-in-Err.ensures
    ]

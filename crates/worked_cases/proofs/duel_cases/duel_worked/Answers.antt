use Rattle.std.proofs.Common.{refl}
use Rattle.duel.specs.Boards.{first_moved, second_moved, sees}
use Rattle.duel.specs.Words.{spelled}
use Rattle.worked_cases.proofs.duel_cases.duel_worked.Goals as goal

pub returns : goal.returns
unfolding first_moved second_moved sees spelled
returns c = record {
  opens = refl;
  opening_digest = refl;
  steps = refl;
  step_digest = refl;
  fire_in_frame_6_scores = refl;
  fire_in_frame_5_misses = refl;
}

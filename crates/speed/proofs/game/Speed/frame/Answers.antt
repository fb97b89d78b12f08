use Rattle.std.proofs.Common.{◌∷◌, sym, ap, ◌∙◌, subst}
use Rattle.speed.specs.Laws.{Kept, run}
use Rattle.speed.specs.Places.{parity}
use Rattle.speed.specs.Rules.{next_state}
use Rattle.speed.specs.Trails.{undone_state}
use Rattle.speed.proofs.Sound.{sound_of}
use Rattle.speed.proofs.Frames.{run_kept}
use Rattle.speed.proofs.Ends.{goes_on_from}
use Rattle.speed.proofs.Backs.{undone_frame, frame_alternates}
use Rattle.speed.proofs.game.Speed.frame.Goals as goal

pub returns : goal.returns
returns c =
    let w = c.args.self.now.words in
    let s = sound_of c.args.self.now in
    let first = c.args.first in
    let second = c.args.second in
    let is = c.advance.ensures in
    record {
      state = is;
      trail = ap (λ v. undone_state v c.record_trail-trail.result) is ∙ (ap (undone_state (next_state w first second)) c.record_trail-trail.ensures ∙ undone_frame w s first second);
      kept = λ later. subst (λ v. Kept w (run v later)) (sym is) (run_kept ((first, second) ∷ later) w s);
      alternates = λ goes_on. ap parity is ∙ frame_alternates w s first second (goes_on_from w s.wide goes_on);
    }

use Rattle.std.proofs.Common.{refl, ap, ◌∙◌}
use Rattle.std.specs.Option.{option_map}
use Rattle.duel.specs.Meaning.{duel_words}
use Rattle.duel.specs.Words.{before}
use Rattle.duel.specs.Spelling.{kept_if_sound, refused_if_unspelled}
use Rattle.duel.proofs.Seats.{ten_spell, first_missing, second_missing, both_there}
use Rattle.duel.proofs.state.Duel.before.Goals as goal

pub returns-in_err-from_pose : goal.returns-in_err-from_pose
returns-in_err-from_pose c =
    ap (option_map duel_words) c.from_residual.ensures
    ∙ refused_if_unspelled _ (ten_spell (before (duel_words c.args.self) c.args.trail.now) refl ∙ first_missing _ _ c.in_err-from_pose.ensures)

pub returns-in_err-from_pose-2 : goal.returns-in_err-from_pose-2
returns-in_err-from_pose-2 c =
    ap (option_map duel_words) c.from_residual-in_err-from_pose-2.ensures
    ∙ refused_if_unspelled _ (ten_spell (before (duel_words c.args.self) c.args.trail.now) refl ∙ second_missing _ _ c.in_ok-from_pose.ensures c.in_err-from_pose-2.ensures)

pub returns : goal.returns
returns c =
    c.of.ensures ∙ kept_if_sound _ _ (ten_spell (before (duel_words c.args.self) c.args.trail.now) refl ∙ both_there _ _ c.in_ok-from_pose.ensures c.in_ok-from_pose-2.ensures)

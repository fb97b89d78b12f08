use Rattle.std.proofs.Common.{◌&&◌, is_some, ap, ◌∙◌}
use Rattle.speed.specs.Lawful.{in_play, none_twice}
use Rattle.speed.proofs.Sets.{apart_is}
use Rattle.speed.proofs.lawful.is_playable.Goals as goal

pub returns-then-is_in_range : goal.returns-then-is_in_range
returns-then-is_in_range c =
    let cards = in_play c.args.words.now in
    c.is_some.ensures ∙ (ap is_some c.mark_in_play.ensures ∙ (apart_is cards ∙ ap (λ b. b && none_twice cards) c.if-is_in_range.ensures))

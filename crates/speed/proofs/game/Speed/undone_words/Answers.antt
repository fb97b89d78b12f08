use Rattle.std.proofs.Common.{◌≡◌, sym, ap, ◌∙◌}
use Rattle.std.specs.Bool.{then_some}
use Rattle.speed.specs.Lawful.{lawful_state}
use Rattle.speed.proofs.Backs.{back_lawful, undone_is, some_lawful}
use Rattle.speed.proofs.game.Speed.undone_words.Goals as goal

pub returns : goal.returns
returns c =
    let w = c.args.self.now.words in
    let v = c.restore_trail.new.words in
    let tested : c.is_playable.result ≡ lawful_state v = c.is_playable.ensures ∙ sym (back_lawful w v c.args.trail.now c.args.self.now.lawful c.restore_trail.ensures) in
    let is : c.then_some.result ≡ then_some (lawful_state v) v = c.then_some.ensures ∙ ap (λ b. then_some b v) tested in
    record { state = is ∙ undone_is w v c.args.trail.now c.restore_trail.ensures; lawful = some_lawful v _ c.restore_trail.array_long is }

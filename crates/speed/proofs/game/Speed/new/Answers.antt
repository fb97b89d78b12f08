use Rattle.std.proofs.Common.{length, take, ap, ◌∙◌}
use Rattle.std.proofs.lemmas.Bool.{and_parts}
use Rattle.speed.specs.Lawful.{times, in_play, permutation, lawful_state}
use Rattle.speed.specs.Opening.{dealt, opening_state}
use Rattle.speed.proofs.Sound.{lawful_from}
use Rattle.speed.proofs.Deals.{opening_sound, opening_whole}
use Rattle.speed.proofs.game.Speed.new.Goals as goal

pub invariant_of-result : goal.invariant_of-result
unfolding opening_state
invariant_of-result c =
    let is = c.deal.ensures ∙ ap dealt c.shuffled_pack-order.ensures.order in
    let s = opening_sound c.args.seed in
    record { wide = ap length is ∙ s.wide; lawful = ap lawful_state is ∙ lawful_from _ s }

pub returns : goal.returns
unfolding opening_state lawful_state
returns c =
    let is = c.deal.ensures ∙ ap dealt c.shuffled_pack-order.ensures.order in
    let s = opening_sound c.args.seed in
    record {
      opening = is;
      shuffled = ap (λ w. permutation (take 52 w)) is ∙ (and_parts _ _ (lawful_from _ s)).0;
      whole_pack = λ card h. ap (λ w. times card (in_play w)) is ∙ opening_whole c.args.seed card h;
    }

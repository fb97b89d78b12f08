use Rattle.std.proofs.Common.{◌≡◌, true, ◌&&◌, eqb, sym, ap, ◌∙◌, rules, tests}
use Rattle.std.proofs.lemmas.Iterator.{YieldsList-from_slice}
use Rattle.std.proofs.lemmas.Iterator.Search.{all_from_yields_List}
use Rattle.std.proofs.lemmas.Bool.{eq-eqb}
use Rattle.speed.specs.Places.{seat_number, draws, hand}
use Rattle.speed.specs.Rules.{none_held}
use Rattle.speed.proofs.Numbers.{seat_tag}
use Rattle.speed.proofs.game.Speed.is_out.Goals as goal

pub returns-then-self-seat-eq0 : goal.returns-then-self-seat-eq0
returns-then-self-seat-eq0 c =
    let cards = hand c.args.self.now.words (seat_number c.args.seat) in
    let held : c.all.result ≡ none_held cards = all_from_yields_List (λ card. eqb card 52) _ _ c.all.result c.all.ensures.ran (YieldsList-from_slice cards (c.iter.ensures.rest ∙ c.hand.ensures)) (λ x b q k. search (rules, tests)) in
    let drawn : eqb (draws c.args.self.now.words (seat_number c.args.seat)) 0 ≡ true = eq-eqb _ _ (rw (seat_tag c.args.seat) at c.if-self-seat-eq0.true) in
    held ∙ sym (ap (λ b. b && none_held cards) drawn)

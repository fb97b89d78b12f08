use Rattle.std.proofs.Common.{◌≡◌, false, sym, arith}
use Rattle.std.proofs.lemmas.Bool.Decides.{nat_tests}
use Rattle.speed.specs.declared.moves.Move.TheVariants.{Play}
use Rattle.speed.specs.Places.{seat_number}
use Rattle.speed.specs.Moves.{slot_number, pile_number}
use Rattle.speed.specs.Rules.{playable}
use Rattle.speed.proofs.Numbers.{seat_tag, slot_tag, pile_tag, seat_lt}
use Rattle.speed.proofs.Sound.{sound_of}
use Rattle.speed.proofs.Steps.{stays, play_is}
use Rattle.speed.proofs.Frames.{move_follows, still_lawful}
use Rattle.speed.proofs.game.Speed.play.Goals as goal

pub returns-then-card-eq-EMPTY : goal.returns-then-card-eq-EMPTY
returns-then-card-eq-EMPTY c =
    let seat = seat_tag c.args.seat in
    let slot = slot_tag c.args.slot in
    let pile = pile_tag c.args.pile in
    let no_play : playable c.args.self.now.words (seat_number c.args.seat) (slot_number c.args.slot) (pile_number c.args.pile) ≡ false = grind (arith, nat_tests) in
    stays c.args.self.now.words (seat_number c.args.seat) c.args.slot c.args.pile no_play

pub invariant_of-self : goal.invariant_of-self
invariant_of-self c =
    let w = c.args.self.now.words in
    let is = play_is w c.args.seat c.args.slot c.args.pile _ _ c.if-card-eq-EMPTY.false (sym c.if-not-cards_fit.ensures) c.next_card.ensures c.saturating_sub.ensures in
    let s = sound_of c.args.self.now in
    let kept = still_lawful w _ _ s (move_follows w s (seat_number c.args.seat) (seat_lt c.args.seat) (Play c.args.slot c.args.pile)) is in
    record { wide = kept.0; lawful = kept.1 }

pub returns : goal.returns
returns c =
    play_is c.args.self.now.words c.args.seat c.args.slot c.args.pile _ _ c.if-card-eq-EMPTY.false (sym c.if-not-cards_fit.ensures) c.next_card.ensures c.saturating_sub.ensures

-- The definitions of a frame, case by case.
use Rattle.std.proofs.Common.{◌≡◌, ℕ, ◌+◌, ◌-◌, ◌*◌, true, false, set, sym, arith}
use denote.Enum.Declared.{tag_of}
use Rattle.std.proofs.lemmas.Bool.{cond-true, cond-false}
use Rattle.std.proofs.lemmas.Bool.Decides.{nat_tests}
use Rattle.interface.specs.Games.{State}
use Rattle.speed.specs.contracts.places.Seat as seats
use Rattle.speed.specs.contracts.moves.Slot as slots
use Rattle.speed.specs.contracts.moves.Pile as piles
use Rattle.speed.specs.declared.places.Seat.{Seat}
use Rattle.speed.specs.declared.moves.Slot.{Slot}
use Rattle.speed.specs.declared.moves.Pile.{Pile}
use Rattle.speed.specs.declared.moves.Move.TheVariants.{Play}
use Rattle.speed.specs.Moves.{slot_number, pile_number}
use Rattle.speed.specs.Places.{empty_slot, seat_number, at}
use Rattle.speed.specs.Rules.{fits, refill, playable, played, moved}
use Rattle.speed.proofs.Numbers.{seat_tag, slot_tag, pile_tag}

-- a card that cannot be played stays
pub stays : (w : State) (seat : ℕ) (slot : Slot) (pile : Pile) → playable w seat (slot_number slot) (pile_number pile) ≡ false → w ≡ moved w seat (Play slot pile)
unfolding moved
stays w seat slot pile no_play = sym (cond-false _ _ _ no_play)

-- one that can be played is
pub goes : (w : State) (seat : ℕ) (slot : Slot) (pile : Pile) → playable w seat (slot_number slot) (pile_number pile) ≡ true → moved w seat (Play slot pile) ≡ played w seat (slot_number slot) (pile_number pile)
unfolding moved
goes w seat slot pile yes_play = cond-true _ _ _ yes_play

-- the code's three writes play it
pub play_is : (w : State) (seat : Seat) (slot : Slot) (pile : Pile) (next left : ℕ) → let place : ℕ = 52 + 5 * tag_of seats.the_type seat + tag_of slots.the_type slot in (at w place ≡ empty_slot → ⊥) → fits (at w place) (at w (65 + tag_of piles.the_type pile)) ≡ true → next ≡ refill w (seat_number seat) → left ≡ at w (62 + tag_of seats.the_type seat) - 1 → set (set (set w place next) (62 + tag_of seats.the_type seat) left) (65 + tag_of piles.the_type pile) (at w place) ≡ moved w (seat_number seat) (Play slot pile)
unfolding played
play_is w seat slot pile next left card fit next_is left_is =
    let seat_is = seat_tag seat in
    let slot_is = slot_tag slot in
    let pile_is = pile_tag pile in
    let yes_play : playable w (seat_number seat) (slot_number slot) (pile_number pile) ≡ true = grind (arith, nat_tests) in
    let moves = goes w (seat_number seat) slot pile yes_play in
    cc

-- The numbers of seats, slots and piles: what the code's `as` gives, and their bounds.
use Rattle.std.proofs.Common.{◌≡◌, ◌<◌, refl, arith}
use denote.Enum.Declared.{tag_of}
use Rattle.speed.specs.contracts.places.Seat as seats
use Rattle.speed.specs.contracts.moves.Slot as slots
use Rattle.speed.specs.contracts.moves.Pile as piles
use Rattle.speed.specs.declared.places.Seat.{Seat}
use Rattle.speed.specs.declared.places.Seat.TheVariants.{Zero, One}
use Rattle.speed.specs.declared.moves.Slot.{Slot}
use Rattle.speed.specs.declared.moves.Slot.TheVariants.{First, Second, Third, Fourth, Fifth}
use Rattle.speed.specs.declared.moves.Pile.{Pile}
use Rattle.speed.specs.declared.moves.Pile.TheVariants.{Left, Right}
use Rattle.speed.specs.Places.{seat_number}
use Rattle.speed.specs.Moves.{slot_number, pile_number}

pub seat_tag : (seat : Seat) → tag_of seats.the_type seat ≡ seat_number seat
seat_tag Zero = refl
seat_tag One = refl

pub slot_tag : (slot : Slot) → tag_of slots.the_type slot ≡ slot_number slot
slot_tag First = refl
slot_tag Second = refl
slot_tag Third = refl
slot_tag Fourth = refl
slot_tag Fifth = refl

pub pile_tag : (pile : Pile) → tag_of piles.the_type pile ≡ pile_number pile
pile_tag Left = refl
pile_tag Right = refl

pub seat_lt : (seat : Seat) → seat_number seat < 2
seat_lt Zero = omega arith
seat_lt One = omega arith

pub slot_lt : (slot : Slot) → slot_number slot < 5
slot_lt First = omega arith
slot_lt Second = omega arith
slot_lt Third = omega arith
slot_lt Fourth = omega arith
slot_lt Fifth = omega arith

pub pile_lt : (pile : Pile) → pile_number pile < 2
pile_lt Left = omega arith
pile_lt Right = omega arith

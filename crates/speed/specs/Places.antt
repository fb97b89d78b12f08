-- Where the words of a state stand, and what they are called. Words 0 to 51 are the order of the pack.
-- The numbers are written out, so that no change of the code's constants changes what contracts say.
use Rattle.std.specs.Prelude.{ℕ, ◌+◌, ◌*◌, List, slice_index}
use Rattle.std.specs.List.{between}
use Rattle.speed.specs.declared.places.Seat.{Seat}
use Rattle.speed.specs.declared.places.Seat.TheVariants.{Zero, One}

abbrev pub seat_number : Seat → ℕ
seat_number Zero = 0
seat_number One = 1

-- the number that stands in a slot without a card; cards are 0 to 51
abbrev pub empty_slot : ℕ
empty_slot = 52

-- words 52 to 61: slot i of each seat's hand
abbrev pub slot_at : ℕ → ℕ → ℕ
slot_at seat i = 52 + 5 * seat + i

-- words 62 and 63: how many cards each seat has to draw
abbrev pub draws_at : ℕ → ℕ
draws_at seat = 62 + seat

-- word 64: how many cards each side has
abbrev pub sides_at : ℕ
sides_at = 64

-- words 65 and 66: the tops of the piles, left and right
abbrev pub top_at : ℕ → ℕ
top_at pile = 65 + pile

-- word 67: the seat that plays first in the next frame
abbrev pub parity_at : ℕ
parity_at = 67

abbrev pub at : List ℕ → ℕ → ℕ
at w k = slice_index w k

abbrev pub draws : List ℕ → ℕ → ℕ
draws w seat = at w (draws_at seat)

abbrev pub sides : List ℕ → ℕ
sides w = at w sides_at

abbrev pub parity : List ℕ → ℕ
parity w = at w parity_at

abbrev pub hand : List ℕ → ℕ → List ℕ
hand w seat = between (slot_at seat 0) (slot_at seat 5) w

-- a seat draws from words 0 to 14 or 15 to 29: where they end
abbrev pub draw_end : ℕ → ℕ
draw_end seat = 15 * (seat + 1)

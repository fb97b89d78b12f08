-- The trail of a frame: the old values of all words that the frame can change.
use Rattle.std.specs.Prelude.{ℕ, ◌+◌, ◌*◌, ◌/◌, ◌%◌, List, [], ◌∷◌, Option, slice_set}
use Rattle.interface.specs.Games.{State, if_lawful}
use Rattle.speed.specs.declared.moves.Move.{Move}
use Rattle.speed.specs.declared.moves.Move.TheVariants.{Idle, Play, CallTurn}
use Rattle.speed.specs.Moves.{slot_number}
use Rattle.speed.specs.Places.{slot_at, draws_at, sides_at, top_at, parity_at, at, draws, sides, parity}
use Rattle.speed.specs.Lawful.{lawful_state}

-- the slot that a move can change
abbrev pub slot_of : Move → ℕ
slot_of Idle = 0
slot_of (Play slot pile) = slot_number slot
slot_of CallTurn = 0

-- one word for each seat: from the lowest digit a slot, its card, the seat's draws, and the top of the pile of the seat's number
abbrev pub seat_trail : State → ℕ → Move → ℕ
seat_trail w seat move = slot_of move + 5 * (at w (slot_at seat (slot_of move)) + 64 * (draws w seat + 16 * at w (top_at seat)))

-- the words of both seats, the sides and the parity
unfoldable pub trail_of : State → Move → Move → List ℕ
trail_of w first second = seat_trail w 0 first ∷ seat_trail w 1 second ∷ sides w ∷ parity w ∷ []

-- the words that a seat's part of a trail puts back
unfoldable pub seat_back : State → ℕ → ℕ → State
seat_back w seat trail = slice_set (slice_set (slice_set w (slot_at seat (trail % 5)) (trail / 5 % 64)) (draws_at seat) (trail / 5 / 64 % 16)) (top_at seat) (trail / 5 / 64 / 16)

unfoldable pub put_back : State → List ℕ → State
put_back w trail = seat_back (seat_back (slice_set (slice_set w sides_at (at trail 2)) parity_at (at trail 3)) 0 (at trail 0)) 1 (at trail 1)

abbrev pub undone_state : State → List ℕ → Option State
undone_state w trail = if_lawful lawful_state (put_back w trail)

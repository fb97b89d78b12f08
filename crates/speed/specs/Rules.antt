-- The rules of a frame.
use Rattle.std.specs.Prelude.{ℕ, ◌+◌, ◌-◌, ◌%◌, Bool, cond, not, ◌&&◌, ◌||◌, List, ◌==◌, slice_set}
use Rattle.std.specs.List.{list_all}
use Rattle.interface.specs.Games.{State}
use Rattle.speed.specs.declared.moves.Move.{Move}
use Rattle.speed.specs.declared.moves.Move.TheVariants.{Idle, Play, CallTurn}
use Rattle.speed.specs.Moves.{slot_number, pile_number, calls}
use Rattle.speed.specs.Places.{empty_slot, slot_at, draws_at, sides_at, top_at, parity_at, at, draws, sides, parity, hand, draw_end}

abbrev pub rank : ℕ → ℕ
rank card = card % 13

abbrev pub gap : ℕ → ℕ → ℕ
gap a b = (a - b) + (b - a)

-- cards fit when their ranks differ by 1 or 12
abbrev pub fits : ℕ → ℕ → Bool
fits card top = gap (rank card) (rank top) == 1 || gap (rank card) (rank top) == 12

-- a slot's card can go onto a pile: there is one, and it fits the top
abbrev pub playable : State → ℕ → ℕ → ℕ → Bool
playable w seat slot pile = not (at w (slot_at seat slot) == empty_slot) && fits (at w (slot_at seat slot)) (at w (top_at pile))

-- what a slot holds once its card is gone: the next card to draw, or nothing
abbrev pub refill : State → ℕ → ℕ
refill w seat = cond (draws w seat == 0) empty_slot (at w (draw_end seat - draws w seat))

-- the slot's card becomes the top, and the slot refills
unfoldable pub played : State → ℕ → ℕ → ℕ → State
played w seat slot pile = slice_set (slice_set (slice_set w (slot_at seat slot) (refill w seat)) (draws_at seat) (draws w seat - 1)) (top_at pile) (at w (slot_at seat slot))

-- what one seat's move does
unfoldable pub moved : State → ℕ → Move → State
moved w seat Idle = w
moved w seat (Play slot pile) = cond (playable w seat (slot_number slot) (pile_number pile)) (played w seat (slot_number slot) (pile_number pile)) w
moved w seat CallTurn = w

-- the seat equal to the parity plays first, the other against the new tops
unfoldable pub both_moved : State → Move → Move → State
both_moved w first second = cond (parity w == 0) (moved (moved w 0 first) 1 second) (moved (moved w 1 second) 0 first)

-- the sides are turned: both seats called, and there are sides
abbrev pub turns : State → Move → Move → Bool
turns w first second = calls first && (calls second && not (sides w == 0))

-- one card of each side becomes a top
unfoldable pub turned : State → State
turned w = slice_set (slice_set (slice_set w (top_at 0) (at w (45 - sides w))) (top_at 1) (at w (50 - sides w))) sides_at (sides w - 1)

abbrev pub flipped : State → State
flipped w = slice_set w parity_at (1 - parity w)

abbrev pub none_held : List ℕ → Bool
none_held cards = list_all (λ card. card == empty_slot) cards

-- a seat has no card in hand and none to draw
abbrev pub out_of_cards : State → ℕ → Bool
out_of_cards w seat = draws w seat == 0 && none_held (hand w seat)

-- the game is over
unfoldable pub over : State → Bool
over w = out_of_cards w 0 || out_of_cards w 1

-- the sides after both moves
unfoldable pub sides_turned : State → Move → Move → State
sides_turned w first second = cond (turns w first second) (turned w) w

-- a frame with the moves of seats 0 and 1
unfoldable pub next_state : State → Move → Move → State
next_state w first second = cond (over w) w (flipped (sides_turned (both_moved w first second) first second))

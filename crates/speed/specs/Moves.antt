-- The moves of a seat and their codes.
use Rattle.std.specs.Prelude.{ℕ, ◌+◌, ◌*◌, Bool, true, false, List, [], ◌∷◌, Option}
use Rattle.std.specs.List.{slice_get}
use Rattle.speed.specs.declared.moves.Slot.{Slot}
use Rattle.speed.specs.declared.moves.Slot.TheVariants.{First, Second, Third, Fourth, Fifth}
use Rattle.speed.specs.declared.moves.Pile.{Pile}
use Rattle.speed.specs.declared.moves.Pile.TheVariants.{Left, Right}
use Rattle.speed.specs.declared.moves.Move.{Move}
use Rattle.speed.specs.declared.moves.Move.TheVariants.{Idle, Play, CallTurn}

abbrev pub slot_number : Slot → ℕ
slot_number First = 0
slot_number Second = 1
slot_number Third = 2
slot_number Fourth = 3
slot_number Fifth = 4

abbrev pub pile_number : Pile → ℕ
pile_number Left = 0
pile_number Right = 1

-- 0 is idle, 1 to 10 are the plays, 11 calls a turn
abbrev pub code_of : Move → ℕ
code_of Idle = 0
code_of (Play slot pile) = 1 + 2 * slot_number slot + pile_number pile
code_of CallTurn = 11

-- the plays of a slot: left, then right
abbrev pub and_plays : Slot → List Move → List Move
and_plays slot rest = Play slot Left ∷ (Play slot Right ∷ rest)

-- all moves, each at the place of its code
abbrev pub moves_by_code : List Move
moves_by_code = Idle ∷ and_plays First (and_plays Second (and_plays Third (and_plays Fourth (and_plays Fifth (CallTurn ∷ [])))))

abbrev pub read_code : ℕ → Option Move
read_code n = slice_get moves_by_code n

abbrev pub idle_move : Move
idle_move = Idle

-- the seat calls a turn
abbrev pub calls : Move → Bool
calls Idle = false
calls (Play slot pile) = false
calls CallTurn = true

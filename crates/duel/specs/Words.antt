-- A state of Duel as its ten words: column, row, facing and score of seat 0, the same of seat 1, then two wall words.
use Rattle.std.specs.Prelude.{ℕ, ◌+◌, ◌*◌, ◌/◌, ◌%◌, ◌^◌, Bool, false, cond, List, [], ◌∷◌, length, Some, None, Option, ◌==◌, slice_index}
use Rattle.interface.specs.Games.{State, if_lawful}
use Rattle.duel.specs.declared.input.Direction.{Direction}
use Rattle.duel.specs.declared.input.DuelInput.{DuelInput}
use Rattle.duel.specs.declared.board.Player.{Player}
use Rattle.duel.specs.declared.board.Board.{Board}
use Rattle.duel.specs.Inputs.{number_of_direction, direction_numbered}
use Rattle.duel.specs.Boards.{cell, played, sound}

abbrev pub words_of : Board → State
words_of b =
    b.first.cell.column ∷ b.first.cell.row ∷ number_of_direction b.first.facing ∷ b.first.score
    ∷ b.second.cell.column ∷ b.second.cell.row ∷ number_of_direction b.second.facing ∷ b.second.score
    ∷ b.walls.upper ∷ b.walls.lower ∷ []

abbrev pub player : ℕ → ℕ → Direction → ℕ → Player
player c r f s = record { cell = cell c r; facing = f; score = s }

-- the board of ten words, with the facings that two of them number
abbrev pub facing_board : Option Direction → Option Direction → State → Option Board
facing_board None g ws = None
facing_board (Some f) None ws = None
facing_board (Some f) (Some g) ws = Some (record {
  first = player (slice_index ws 0) (slice_index ws 1) f (slice_index ws 3);
  second = player (slice_index ws 4) (slice_index ws 5) g (slice_index ws 7);
  walls = record { upper = slice_index ws 8; lower = slice_index ws 9 };
})

-- the board that words spell: there are ten, and both facings are 1 to 4
unfoldable pub spelled : State → Option Board
spelled ws = cond (length ws == 10) (facing_board (direction_numbered (slice_index ws 2)) (direction_numbered (slice_index ws 6)) ws) None

abbrev pub sound_if : Option Board → Bool
sound_if None = false
sound_if (Some b) = sound b

-- words that spell a sound board
abbrev pub lawful : State → Bool
lawful ws = sound_if (spelled ws)

-- seat 0 in the upper left corner facing right, seat 1 in the lower right facing left;
-- the walls are the seed without bit 0, and the seed rotated left by 16 without bit 31
abbrev pub opening_board : ℕ → Board
opening_board seed = record {
  first = player 0 0 Direction.Right 0;
  second = player 7 7 Direction.Left 0;
  walls = record { upper = seed / 2 * 2; lower = (seed % 2 ^ 16 * 2 ^ 16 + seed / 2 ^ 16) % 2 ^ 31 };
}

abbrev pub opening : ℕ → State
opening seed = words_of (opening_board seed)

abbrev pub played_if : Option Board → State → DuelInput → DuelInput → State
played_if None ws i j = ws
played_if (Some b) ws i j = words_of (played b i j)

abbrev pub next : State → DuelInput → DuelInput → State
next ws i j = played_if (spelled ws) ws i j

-- where a player stands and faces, in one word
abbrev pub pose : Player → ℕ
pose p = p.cell.column + 8 * p.cell.row + 64 * number_of_direction p.facing

-- a trail is each seat's pose and score before the frame
abbrev pub trail_of : Board → List ℕ
trail_of b = pose b.first ∷ b.first.score ∷ pose b.second ∷ b.second.score ∷ []

-- the words that a trail leads back to: poses and scores are the trail's, the walls are as they stand
abbrev pub before : State → List ℕ → State
before ws t =
    slice_index t 0 % 8 ∷ slice_index t 0 / 8 % 8 ∷ slice_index t 0 / 64 ∷ slice_index t 1
    ∷ slice_index t 2 % 8 ∷ slice_index t 2 / 8 % 8 ∷ slice_index t 2 / 64 ∷ slice_index t 3
    ∷ slice_index ws 8 ∷ slice_index ws 9 ∷ []

abbrev pub undone : State → List ℕ → Option State
undone ws t = if_lawful lawful (before ws t)

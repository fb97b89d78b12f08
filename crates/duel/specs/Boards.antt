-- A frame of Duel on the board, as its rules have it.
use Rattle.std.specs.Prelude.{ℕ, zero, suc, ◌+◌, ◌-◌, ◌*◌, ◌/◌, ◌%◌, ◌^◌, ◌<◌, min, Bool, true, false, cond, not, ◌&&◌, Some, None, Option, ◌==◌, nat_lt}
use Rattle.std.specs.Option.{unwrap_or}
use Rattle.duel.specs.declared.input.Direction.{Direction}
use Rattle.duel.specs.declared.input.Direction.TheVariants.{Up, Right, Down, Left}
use Rattle.duel.specs.declared.input.DuelInput.{DuelInput}
use Rattle.duel.specs.declared.board.Cell.{Cell}
use Rattle.duel.specs.declared.board.Walls.{Walls}
use Rattle.duel.specs.declared.board.Player.{Player}
use Rattle.duel.specs.declared.board.Board.{Board}

abbrev pub cell : ℕ → ℕ → Cell
cell c r = record { column = c; row = r }

abbrev pub Within : Cell → Type 0
Within c = (c.column < 8) × (c.row < 8)

abbrev pub within : Cell → Bool
within c = nat_lt c.column 8 && nat_lt c.row 8

abbrev pub same_cell : Cell → Cell → Bool
same_cell a b = a.column == b.column && a.row == b.row

-- the next cell that way, or nothing off the grid
abbrev pub ahead : Cell → Direction → Option Cell
ahead c Up = cond (nat_lt 0 c.row) (Some (cell c.column (c.row - 1))) None
ahead c Right = cond (nat_lt c.column 7) (Some (cell (c.column + 1) c.row)) None
ahead c Down = cond (nat_lt c.row 7) (Some (cell c.column (c.row + 1))) None
ahead c Left = cond (nat_lt 0 c.column) (Some (cell (c.column - 1) c.row)) None

-- bit 8 × (row mod 4) + column of the word for the row's half of the grid
abbrev pub wall : Walls → Cell → Bool
wall w c = cond (nat_lt c.row 4) w.upper w.lower / 2 ^ (8 * (c.row % 4) + c.column) % 2 == 1

-- a cell that a seat may enter: neither a wall nor where the other stands
abbrev pub enterable : Walls → Cell → Option Cell → Option Cell
enterable w other None = None
enterable w other (Some c) = cond (wall w c) None (cond (same_cell c other) None (Some c))

-- the cell that a seat at `me` steers into, or nothing where it stays
abbrev pub aim : Walls → Cell → Cell → Option Direction → Option Cell
aim w me other None = None
aim w me other (Some d) = enterable w other (ahead me d)

-- both steer into one cell
abbrev pub both_aim : Option Cell → Option Cell → Bool
both_aim None t = false
both_aim (Some c) None = false
both_aim (Some c) (Some e) = same_cell c e

-- a player after steering: it faces where it steers, and enters what it aims at unless both aim there
abbrev pub moved : Player → Option Direction → Option Cell → Bool → Player
moved p d to clash = record { cell = cond clash p.cell (unwrap_or to p.cell); facing = unwrap_or d p.facing; score = p.score }

-- what a scan makes of the next cell: the target is met, a wall or the edge ends it, else it goes on
abbrev pub scanned : Walls → Cell → Option Cell → (Cell → Bool) → Bool
scanned w target None onward = false
scanned w target (Some c) onward = cond (same_cell c target) true (cond (wall w c) false (onward c))

-- whether a scan of at most n cells from c meets the target before a wall or the edge
unfoldable pub sees : ℕ → Walls → Cell → Direction → Cell → Bool
sees zero w c d target = false
sees (suc n) w c d target = scanned w target (ahead c d) (λ e. sees n w e d target)

-- a firing player's score rises by 1, up to 65,535, where its scan meets the other; no line has more than 8 cells
abbrev pub fired : Walls → Player → Player → Bool → Player
fired w p other fire = record { cell = p.cell; facing = p.facing; score = cond (fire && sees 8 w p.cell p.facing other.cell) (min (p.score + 1) 65535) p.score }

abbrev pub first_aim : Board → DuelInput → Option Cell
first_aim b i = aim b.walls b.first.cell b.second.cell i.steer

abbrev pub second_aim : Board → DuelInput → Option Cell
second_aim b i = aim b.walls b.second.cell b.first.cell i.steer

-- the players after both have steered
unfoldable pub first_moved : Board → DuelInput → DuelInput → Player
first_moved b i j = moved b.first i.steer (first_aim b i) (both_aim (first_aim b i) (second_aim b j))

unfoldable pub second_moved : Board → DuelInput → DuelInput → Player
second_moved b i j = moved b.second j.steer (second_aim b j) (both_aim (first_aim b i) (second_aim b j))

-- a frame: both steer, then both fire from where they now stand
abbrev pub played : Board → DuelInput → DuelInput → Board
played b i j = record {
  first = fired b.walls (first_moved b i j) (second_moved b i j) i.fire;
  second = fired b.walls (second_moved b i j) (first_moved b i j) j.fire;
  walls = b.walls;
}

-- in range, in different cells, neither in a wall
abbrev pub sound : Board → Bool
sound b =
    (within b.first.cell && within b.second.cell)
    && ((nat_lt b.first.score 65536 && nat_lt b.second.score 65536)
    && (not (same_cell b.first.cell b.second.cell) && (not (wall b.walls b.first.cell) && not (wall b.walls b.second.cell))))

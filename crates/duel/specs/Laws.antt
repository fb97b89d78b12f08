-- What holds of every board of a Duel, and of every frame, in the game's own words.
use Rattle.std.specs.Prelude.{◌≡◌, ◌+◌, ◌≤◌, false, None}
use Rattle.duel.specs.declared.input.DuelInput.{DuelInput}
use Rattle.duel.specs.declared.board.Player.{Player}
use Rattle.duel.specs.declared.board.Board.{Board}
use Rattle.duel.specs.Boards.{Within, wall}

-- both stand on the grid, never in one cell, never in a wall
pub record Standing (b : Board) : Type 0 where
  pub first_on_the_grid : Within b.first.cell
  pub second_on_the_grid : Within b.second.cell
  pub never_in_one_cell : b.first.cell ≡ b.second.cell → ⊥
  pub first_not_in_a_wall : wall b.walls b.first.cell ≡ false
  pub second_not_in_a_wall : wall b.walls b.second.cell ≡ false

-- a score never falls, and rises by at most 1
abbrev pub Scores : Player → Player → Type 0
Scores p q = (p.score ≤ q.score) × (q.score ≤ p.score + 1)

abbrev pub Stays : Player → Player → Type 0
Stays p q = (q.cell ≡ p.cell) × (q.facing ≡ p.facing)

-- one frame from b to a with the inputs of seats 0 and 1
pub record Frame (b a : Board) (i j : DuelInput) : Type 0 where
  pub standing : Standing a
  pub walls_stay : a.walls ≡ b.walls
  pub first_scores : Scores b.first a.first
  pub second_scores : Scores b.second a.second
  -- who does not steer stays, and faces the same way
  pub first_unsteered : i.steer ≡ None → Stays b.first a.first
  pub second_unsteered : j.steer ≡ None → Stays b.second a.second

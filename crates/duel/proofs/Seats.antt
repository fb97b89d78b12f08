-- The board that words spell, from its two players.
use Rattle.std.proofs.Common.{◌≡◌, ◌≤◌, length, take, None, Option, Some, slice_index, ◌∙◌, arith}
use Rattle.std.specs.Option.{option_map}
use Rattle.std.proofs.lemmas.Bool.Decides.{nat_tests}
use Rattle.interface.specs.Games.{State}
use Rattle.duel.specs.declared.board.Player.{Player}
use Rattle.duel.specs.declared.board.Walls.{Walls}
use Rattle.duel.specs.declared.board.Board.{Board}
use Rattle.duel.specs.Inputs.{direction_numbered}
use Rattle.duel.specs.Words.{player, facing_board, spelled}
use Rattle.duel.specs.Spelling.{spelled_take}

-- the board of two players, if both are there
abbrev pub seated : Option Player → Option Player → Walls → Option Board
seated None q w = None
seated (Some p) None w = None
seated (Some p) (Some q) w = Some (record { first = p; second = q; walls = w })

abbrev pub first_player : State → Option Player
first_player ws = option_map (λ d. player (slice_index ws 0) (slice_index ws 1) d (slice_index ws 3)) (direction_numbered (slice_index ws 2))

abbrev pub second_player : State → Option Player
second_player ws = option_map (λ d. player (slice_index ws 4) (slice_index ws 5) d (slice_index ws 7)) (direction_numbered (slice_index ws 6))

abbrev pub walls_of : State → Walls
walls_of ws = record { upper = slice_index ws 8; lower = slice_index ws 9 }

facing_seated : (ws : State) → facing_board (direction_numbered (slice_index ws 2)) (direction_numbered (slice_index ws 6)) ws ≡ seated (first_player ws) (second_player ws) (walls_of ws)
facing_seated ws = grind arith

-- the first ten of enough words spell their two players' board
pub first_ten_spell : (ws : State) → 10 ≤ length ws → spelled (take 10 ws) ≡ seated (first_player ws) (second_player ws) (walls_of ws)
first_ten_spell ws h = spelled_take ws h ∙ facing_seated ws

-- and so do ten words
pub ten_spell : (ws : State) → length ws ≡ 10 → spelled ws ≡ seated (first_player ws) (second_player ws) (walls_of ws)
unfolding spelled
ten_spell ws e = grind (arith, nat_tests, facing_seated)

module _ {o : Option Player} (q : Option Player) (w : Walls) where
  pub first_missing : None ≡ o → seated o q w ≡ None
  first_missing e = cc

  pub second_missing : {p : Player} → Some p ≡ o → None ≡ q → seated o q w ≡ None
  second_missing {p} e f = cc

  pub both_there : {p r : Player} → Some p ≡ o → Some r ≡ q → seated o q w ≡ Some (record { first = p; second = r; walls = w })
  both_there {p} e f = cc

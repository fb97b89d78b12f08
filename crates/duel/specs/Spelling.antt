-- Words and boards: each spells the other.
use Rattle.std.specs.Prelude.{◌≡◌, ◌/◌, ◌%◌, ◌<◌, ◌≤◌, true, map, length, take, Some, None, Option, slice_index, refl}
use Rattle.std.proofs.Common.{ap, ◌∙◌, arith, length-take}
use Rattle.std.specs.Bool.{then_some}
use Rattle.std.specs.List.{range_with_len}
use Rattle.std.proofs.lemmas.List.FromFn.{fill_by_all}
use Rattle.std.proofs.lemmas.Bool.Decides.{nat_tests}
use Rattle.std.proofs.lemmas.List.{length-take-le, get_or-take}
use Rattle.interface.specs.Games.{State, if_lawful}
use Rattle.duel.specs.declared.input.Direction.{Direction}
use Rattle.duel.specs.declared.board.Player.{Player}
use Rattle.duel.specs.declared.board.Board.{Board}
use Rattle.duel.specs.Boards.{sound, Within}
use Rattle.duel.specs.Inputs.{number_of_direction, direction_numbered}
use Rattle.duel.specs.Words.{words_of, facing_board, spelled, sound_if, lawful, trail_of, undone, pose}
use Rattle.duel.specs.Codes.{numbered_back}
use Rattle.duel.specs.Moves.{sound_from}

numbered : (d : Direction) → direction_numbered (number_of_direction d) ≡ Some d
numbered d = grind arith

pub spelled_words : (b : Board) → spelled (words_of b) ≡ Some b
unfolding spelled
spelled_words b = grind (arith, nat_tests, numbered)

pub lawful_words : (b : Board) → sound b ≡ true → lawful (words_of b) ≡ true
lawful_words b h = ap sound_if (spelled_words b) ∙ h

abbrev ten : State → State
ten ws = map (λ k. slice_index ws k) (range_with_len 0 10)

ten_same : (f g : Option Direction) (ws : State) → facing_board f g (ten ws) ≡ facing_board f g ws
ten_same f g ws = grind arith

first_ten : (ws : State) → 10 ≤ length ws → take 10 ws ≡ ten ws
first_ten ws h = fill_by_all (λ k. slice_index ws k) (take 10 ws) 10 0 (length-take-le 10 ws h) (λ k lt. get_or-take 10 ws k 0 lt)

pub spelled_take : (ws : State) → 10 ≤ length ws → spelled (take 10 ws) ≡ facing_board (direction_numbered (slice_index ws 2)) (direction_numbered (slice_index ws 6)) ws
unfolding spelled
spelled_take ws h = ap spelled (first_ten ws h) ∙ ten_same (direction_numbered (slice_index ws 2)) (direction_numbered (slice_index ws 6)) ws

pub spelled_short : (ws : State) → length ws < 10 → spelled (take 10 ws) ≡ None
unfolding spelled
spelled_short ws h = grind (arith, nat_tests, length-take)

faced_back : (ws : State) (f g : Option Direction) (b : Board) → length ws ≡ 10 → direction_numbered (slice_index ws 2) ≡ f → direction_numbered (slice_index ws 6) ≡ g → facing_board f g ws ≡ Some b → words_of b ≡ ws
faced_back ws f g b len p q e =
    let whole : ws ≡ ten ws = fill_by_all (λ k. slice_index ws k) ws 10 0 len (λ k lt. refl) in
    grind (arith, nat_tests, numbered_back)

pub spelled_back : (ws : State) (b : Board) → spelled ws ≡ Some b → words_of b ≡ ws
unfolding spelled
spelled_back ws b e = grind (arith, nat_tests, faced_back)

-- a board that words spell gives its words if it is sound, as a lawful state does
pub kept_if_sound : (ws : State) (b : Board) → spelled ws ≡ Some b → then_some (sound b) (words_of b) ≡ if_lawful lawful ws
kept_if_sound ws b e = grind (arith, nat_tests, spelled_back)

pub refused_if_unspelled : (ws : State) → spelled ws ≡ None → None ≡ if_lawful lawful ws
refused_if_unspelled ws e = grind (arith, nat_tests)

-- a pose is taken apart again
unposed : (p : Player) → Within p.cell → (pose p % 8 ≡ p.cell.column) × (pose p / 8 % 8 ≡ p.cell.row) × (pose p / 64 ≡ number_of_direction p.facing)
unposed p h = omega arith

-- a trail leads back to the board that left it, from any with the same walls
pub led_back : (b a : Board) → sound b ≡ true → a.walls ≡ b.walls → undone (words_of a) (trail_of b) ≡ Some (words_of b)
led_back b a h e =
    let s = sound_from b h in
    let one = unposed b.first s.first_in in
    let two = unposed b.second s.second_in in
    grind (arith, nat_tests, lawful_words)

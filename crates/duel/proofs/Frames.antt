-- A frame keeps a board sound, and keeps the laws of a frame.
use Rattle.std.proofs.Common.{◌≡◌, ◌<◌, Bool, None, Option, refl, arith}
use Rattle.std.proofs.lemmas.Bool.Decides.{nat_tests}
use Rattle.duel.specs.declared.input.Direction.{Direction}
use Rattle.duel.specs.declared.input.DuelInput.{DuelInput}
use Rattle.duel.specs.declared.board.Board.{Board}
use Rattle.duel.specs.declared.board.Walls.{Walls}
use Rattle.duel.specs.declared.board.Player.{Player}
use Rattle.duel.specs.Boards.{first_moved, second_moved, moved, fired, played}
use Rattle.duel.specs.Laws.{Standing, Scores, Stays, Frame}
use Rattle.duel.specs.Moves.{Sound, first_moved_in, second_moved_in, first_moved_clear, second_moved_clear, moved_apart, first_moved_score, second_moved_score}

-- a shot adds at most 1, and never passes 65,535
fired_score : (w : Walls) (p q : Player) (f : Bool) → p.score < 65536 → ((fired w p q f).score < 65536) × Scores p (fired w p q f)
fired_score w p q f h = grind (arith, nat_tests)

pub standing : (b : Board) → Sound b → Standing b
standing b s = grind (arith, nat_tests)

-- a player with no aim stays
moved_nowhere : (p : Player) (d : Option Direction) (clash : Bool) → (moved p d None clash).cell ≡ p.cell
moved_nowhere p d clash = grind arith

module _ (b : Board) (s : Sound b) (i j : DuelInput) where
  first_scored : ((fired b.walls (first_moved b i j) (second_moved b i j) i.fire).score < 65536) × Scores b.first (fired b.walls (first_moved b i j) (second_moved b i j) i.fire)
  first_scored = let same = first_moved_score b s i j in let before = s.first_score in grind (arith, nat_tests)

  second_scored : ((fired b.walls (second_moved b i j) (first_moved b i j) j.fire).score < 65536) × Scores b.second (fired b.walls (second_moved b i j) (first_moved b i j) j.fire)
  second_scored = let same = second_moved_score b s i j in let before = s.second_score in grind (arith, nat_tests)

  pub played_sound : Sound (played b i j)
  played_sound = record {
    first_in = first_moved_in b s i j;
    second_in = second_moved_in b s i j;
    first_score = first_scored.0;
    second_score = second_scored.0;
    apart = moved_apart b s i j;
    first_clear = first_moved_clear b s i j;
    second_clear = second_moved_clear b s i j;
  }

  unsteered_first : i.steer ≡ None → Stays b.first (first_moved b i j)
  unfolding first_moved
  unsteered_first p = grind (arith, moved_nowhere)

  unsteered_second : j.steer ≡ None → Stays b.second (second_moved b i j)
  unfolding second_moved
  unsteered_second p = grind (arith, moved_nowhere)

  pub framed : Frame b (played b i j) i j
  framed = record {
    standing = standing (played b i j) played_sound;
    walls_stay = refl;
    first_scores = first_scored.1;
    second_scores = second_scored.1;
    first_unsteered = unsteered_first;
    second_unsteered = unsteered_second;
  }

-- Where steering leads: into range, into no wall, and never into one cell.
use Rattle.std.specs.Prelude.{◌≡◌, ◌<◌, Bool, true, false, cond, Some, None, Option}
use Rattle.std.proofs.Math.Path.{refl}
use Rattle.std.proofs.Common.{arith}
use Rattle.std.specs.Option.{unwrap_or}
use Rattle.std.proofs.lemmas.Bool.Decides.{nat_tests}
use Rattle.duel.specs.declared.input.Direction.{Direction}
use Rattle.duel.specs.declared.input.DuelInput.{DuelInput}
use Rattle.duel.specs.declared.board.Cell.{Cell}
use Rattle.duel.specs.declared.board.Walls.{Walls}
use Rattle.duel.specs.declared.board.Player.{Player}
use Rattle.duel.specs.declared.board.Board.{Board}
use Rattle.duel.specs.Boards.{Within, within, same_cell, ahead, wall, enterable, aim, both_aim, moved, first_aim, second_aim, first_moved, second_moved, sound}
use Rattle.duel.specs.Scans.{ahead_within}

-- what a sound board is
pub record Sound (b : Board) : Type 0 where
  pub first_in : Within b.first.cell
  pub second_in : Within b.second.cell
  pub first_score : b.first.score < 65536
  pub second_score : b.second.score < 65536
  pub apart : same_cell b.first.cell b.second.cell ≡ false
  pub first_clear : wall b.walls b.first.cell ≡ false
  pub second_clear : wall b.walls b.second.cell ≡ false

within_from : (c : Cell) → within c ≡ true → Within c
within_from c e = grind (arith, nat_tests)

within_test : (c : Cell) → Within c → within c ≡ true
within_test c h = grind (arith, nat_tests)

pub sound_from : (b : Board) → sound b ≡ true → Sound b
sound_from b e = grind (arith, nat_tests)

pub sound_test : (b : Board) → Sound b → sound b ≡ true
sound_test b s = grind (arith, nat_tests)

-- what is known of a cell that is aimed at
pub record Aimed (w : Walls) (other c : Cell) : Type 0 where
  pub inside : Within c
  pub clear : wall w c ≡ false
  pub free : same_cell c other ≡ false

entered : (w : Walls) (other : Cell) (to : Option Cell) (c : Cell) → ((e : Cell) → to ≡ Some e → Within e) → enterable w other to ≡ Some c → Aimed w other c
entered w other to c inside e = grind (arith, nat_tests)

pub aimed : (w : Walls) (me other : Cell) (d : Option Direction) (c : Cell) → Within me → aim w me other d ≡ Some c → Aimed w other c
aimed w me other None c h e = grind (arith, nat_tests)
aimed w me other (Some d) c h e = entered w other (ahead me d) c (λ n at. ahead_within me d n h at) e

-- a player ends where it was or in what it aimed at
pub landed : (Q : Cell → Type 0) (p : Player) (d : Option Direction) (to : Option Cell) (clash : Bool) → Q p.cell → ((c : Cell) → to ≡ Some c → Q c) → Q (moved p d to clash).cell
landed Q p d to true stays enters = stays
landed Q p d None false stays enters = stays
landed Q p d (Some c) false stays enters = enters c refl

same_sym : (a b : Cell) → same_cell a b ≡ false → same_cell b a ≡ false
same_sym a b e = grind (arith, nat_tests)

pub never_one_cell : (a b : Cell) (to₁ to₂ : Option Cell) → same_cell a b ≡ false → ((c : Cell) → to₁ ≡ Some c → same_cell c b ≡ false) → ((e : Cell) → to₂ ≡ Some e → same_cell e a ≡ false) → same_cell (cond (both_aim to₁ to₂) a (unwrap_or to₁ a)) (cond (both_aim to₁ to₂) b (unwrap_or to₂ b)) ≡ false
never_one_cell a b to₁ to₂ apart p q = grind (arith, nat_tests)

module _ (b : Board) (s : Sound b) (i j : DuelInput) where
  first_aimed : (c : Cell) → first_aim b i ≡ Some c → Aimed b.walls b.second.cell c
  first_aimed c e = aimed b.walls b.first.cell b.second.cell i.steer c s.first_in e

  second_aimed : (c : Cell) → second_aim b j ≡ Some c → Aimed b.walls b.first.cell c
  second_aimed c e = aimed b.walls b.second.cell b.first.cell j.steer c s.second_in e

  pub first_moved_in : Within (first_moved b i j).cell
  unfolding first_moved
  first_moved_in = landed Within b.first i.steer (first_aim b i) (both_aim (first_aim b i) (second_aim b j)) s.first_in (λ c e. (first_aimed c e).inside)

  pub second_moved_in : Within (second_moved b i j).cell
  unfolding second_moved
  second_moved_in = landed Within b.second j.steer (second_aim b j) (both_aim (first_aim b i) (second_aim b j)) s.second_in (λ c e. (second_aimed c e).inside)

  pub first_moved_clear : wall b.walls (first_moved b i j).cell ≡ false
  unfolding first_moved
  first_moved_clear = landed (λ c. wall b.walls c ≡ false) b.first i.steer (first_aim b i) (both_aim (first_aim b i) (second_aim b j)) s.first_clear (λ c e. (first_aimed c e).clear)

  pub second_moved_clear : wall b.walls (second_moved b i j).cell ≡ false
  unfolding second_moved
  second_moved_clear = landed (λ c. wall b.walls c ≡ false) b.second j.steer (second_aim b j) (both_aim (first_aim b i) (second_aim b j)) s.second_clear (λ c e. (second_aimed c e).clear)

  pub moved_apart : same_cell (first_moved b i j).cell (second_moved b i j).cell ≡ false
  unfolding first_moved second_moved
  moved_apart = never_one_cell b.first.cell b.second.cell (first_aim b i) (second_aim b j) s.apart (λ c e. (first_aimed c e).free) (λ c e. (second_aimed c e).free)

  pub first_moved_score : (first_moved b i j).score ≡ b.first.score
  unfolding first_moved
  first_moved_score = refl

  pub second_moved_score : (second_moved b i j).score ≡ b.second.score
  unfolding second_moved
  second_moved_score = refl

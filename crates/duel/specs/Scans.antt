-- A scan, cell by cell.
use Rattle.std.specs.Prelude.{◌≡◌, ℕ, zero, suc, ◌+◌, ◌-◌, ◌<◌, true, false, cond, Some, None}
use Rattle.std.proofs.Math.Path.{refl}
use native.Mathlib.Omega.{arith}
use Rattle.duel.specs.declared.input.Direction.{Direction}
use Rattle.duel.specs.declared.input.Direction.TheVariants.{Up, Right, Down, Left}
use Rattle.duel.specs.declared.board.Cell.{Cell}
use Rattle.duel.specs.declared.board.Walls.{Walls}
use Rattle.std.proofs.lemmas.Bool.Decides.{nat_tests}
use Rattle.duel.specs.Boards.{ahead, Within, same_cell, wall, sees}

-- the next cell lies on the grid too
pub ahead_within : (c : Cell) (d : Direction) (e : Cell) → Within c → ahead c d ≡ Some e → Within e
ahead_within c Up e h r = grind (arith, nat_tests)
ahead_within c Right e h r = grind (arith, nat_tests)
ahead_within c Down e h r = grind (arith, nat_tests)
ahead_within c Left e h r = grind (arith, nat_tests)

module _ (w : Walls) (c : Cell) (d : Direction) (target : Cell) where
  -- a scan at the edge meets nothing
  pub sees_edge : (n : ℕ) → ahead c d ≡ None → sees n w c d target ≡ false
  unfolding sees
  sees_edge zero e = refl
  sees_edge (suc n) e = grind arith

  -- a scan with the target ahead meets it
  pub sees_target : (n : ℕ) (e : Cell) → 0 < n → ahead c d ≡ Some e → same_cell e target ≡ true → sees n w c d target ≡ true
  unfolding sees
  sees_target zero e h at met = absurd (omega arith)
  sees_target (suc n) e h at met = grind arith

  -- a scan with another cell ahead ends at its wall or goes on from it
  pub sees_past : (n : ℕ) (e : Cell) → 0 < n → ahead c d ≡ Some e → same_cell e target ≡ false → sees n w c d target ≡ cond (wall w e) false (sees (n - 1) w e d target)
  unfolding sees
  sees_past zero e h at missed = absurd (omega arith)
  sees_past (suc n) e h at missed = let back : suc n - 1 ≡ n = omega arith in grind arith

  pub sees_wall : (n : ℕ) (e : Cell) → 0 < n → ahead c d ≡ Some e → same_cell e target ≡ false → wall w e ≡ true → sees n w c d target ≡ false
  sees_wall n e h at missed there = let past = sees_past n e h at missed in cc

  pub sees_onward : (n : ℕ) (e : Cell) → 0 < n → ahead c d ≡ Some e → same_cell e target ≡ false → wall w e ≡ false → sees n w c d target ≡ sees (n - 1) w e d target
  sees_onward n e h at missed clear = let past = sees_past n e h at missed in cc

-- the cells that lie ahead, up to the edge
abbrev pub room : Cell → Direction → ℕ
room c Up = c.row
room c Right = 7 - c.column
room c Down = 7 - c.row
room c Left = c.column

pub room_within : (c : Cell) (d : Direction) → Within c → room c d < 8
room_within c Up h = omega arith
room_within c Right h = omega arith
room_within c Down h = omega arith
room_within c Left h = omega arith

pub room_ahead : (c : Cell) (d : Direction) (e : Cell) → ahead c d ≡ Some e → room c d ≡ room e d + 1
room_ahead c Up e r = grind (arith, nat_tests)
room_ahead c Right e r = grind (arith, nat_tests)
room_ahead c Down e r = grind (arith, nat_tests)
room_ahead c Left e r = grind (arith, nat_tests)

use Rattle.std.proofs.Common.{ℕ, ◌≡◌, ◌≤◌}
use Rattle.duel.specs.Boards.{Within, sees}
use Rattle.duel.specs.Scans.{room}
use Rattle.duel.proofs.board.Player.sees.Given as goal

-- a scan of some more cells, at least to the edge, is the whole scan
abbrev pub invariant-loop-next : goal.invariant-loop-next
invariant-loop-next l = record {
  inside : Within l.cell;
  more : ℕ;
  to_the_edge : room l.cell l.self.facing ≤ more;
  whole : sees more l.walls l.cell l.self.facing l.target ≡ sees 8 l.walls l.self.cell l.self.facing l.target;
}

abbrev pub decreases-loop-next : goal.decreases-loop-next
decreases-loop-next l = room l.cell l.self.facing

use Rattle.std.proofs.Common.{◌-◌, ◌<◌, sym, refl, ◌∙◌, arith}
use Rattle.duel.specs.Scans.{ahead_within, sees_edge, sees_target, sees_wall, sees_onward, room_within, room_ahead}
use Rattle.duel.proofs.board.Player.sees.Goals as goal
use Rattle.duel.proofs.board.Player.sees.Goals.{In-Some}

pub loop-next-init : goal.loop-next-init
loop-next-init c = record {
  inside = c.requires;
  more = 8;
  to_the_edge = let below = room_within c.args.self.cell c.args.self.facing c.requires in omega arith;
  whole = refl;
}

one_more : (c : In-Some) → 0 < c.loop-next.invariant.more
one_more c =
    let ahead = room_ahead c.loop-next.cell c.args.self.facing c.in-Some.next (sym c.in-Some.ensures) in
    let reach = c.loop-next.invariant.to_the_edge in
    omega arith

pub returns-then-eq : goal.returns-then-eq
returns-then-eq c =
    sym (sees_target _ _ _ _ _ _ (one_more (goal.at.returns-then-eq c).In-Some) (sym c.in-Some.ensures) (sym c.if-eq.ensures)) ∙ c.loop-next.invariant.whole

pub returns-then-at : goal.returns-then-at
returns-then-at c =
    sym (sees_wall _ _ _ _ _ _ (one_more (goal.at.returns-then-at c).In-Some) (sym c.in-Some.ensures) (sym c.if-eq.ensures) (sym c.if-at.ensures)) ∙ c.loop-next.invariant.whole

pub loop-next-preserved : goal.loop-next-preserved
loop-next-preserved c = record {
  inside = ahead_within _ _ _ c.loop-next.invariant.inside (sym c.in-Some.ensures);
  more = c.loop-next.invariant.more - 1;
  to_the_edge =
      let ahead = room_ahead c.loop-next.cell c.args.self.facing c.in-Some.next (sym c.in-Some.ensures) in
      let reach = c.loop-next.invariant.to_the_edge in
      omega arith;
  whole = sym (sees_onward _ _ _ _ _ _ (one_more (goal.at.loop-next-preserved c).In-Some) (sym c.in-Some.ensures) (sym c.if-eq.ensures) (sym c.if-at.ensures)) ∙ c.loop-next.invariant.whole;
}

pub returns : goal.returns
returns c = sym (sees_edge _ _ _ _ _ (sym c.in_default.ensures)) ∙ c.loop-next.invariant.whole

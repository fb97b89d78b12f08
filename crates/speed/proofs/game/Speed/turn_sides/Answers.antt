use Rattle.std.proofs.Common.{sym, arith}
use Rattle.std.proofs.lemmas.Bool.{cond-true, cond-false}
use Rattle.speed.specs.Rules.{turned, sides_turned}
use Rattle.speed.proofs.Sound.{sound_of, sides_le}
use Rattle.speed.proofs.Frames.{turned_follows, still_lawful}
use Rattle.speed.proofs.game.Speed.turn_sides.Goals as goal

pub overflow_sub-left : goal.overflow_sub-left
overflow_sub-left c = omega (arith, sides_le c.args.self.now.words (sound_of c.args.self.now))

pub overflow_sub-right : goal.overflow_sub-right
overflow_sub-right c = omega (arith, sides_le c.args.self.now.words (sound_of c.args.self.now))

pub invariant_of-self : goal.invariant_of-self
unfolding turned sides_turned
invariant_of-self c =
    let w = c.args.self.now.words in
    let s = sound_of c.args.self.now in
    let kept = still_lawful w _ _ s (turned_follows w s c.args.first c.args.second) (sym (cond-true _ _ _ (sym c.if-sides_turn.ensures))) in
    record { wide = kept.0; lawful = kept.1 }

pub returns-then-sides_turn : goal.returns-then-sides_turn
unfolding turned sides_turned
returns-then-sides_turn c = sym (cond-true _ _ _ (sym c.if-sides_turn.ensures))

pub returns-else-sides_turn : goal.returns-else-sides_turn
unfolding turned sides_turned
returns-else-sides_turn c = sym (cond-false _ _ _ (sym c.if-sides_turn.ensures))

use Rattle.std.proofs.Common.{refl, sym}
use Rattle.speed.specs.Rules.{flipped}
use Rattle.speed.proofs.Sound.{sound_of, parity_le}
use Rattle.speed.proofs.Keeps.{flip_follows}
use Rattle.speed.proofs.Frames.{still_lawful, frame_ends, frame_goes}
use Rattle.speed.proofs.game.Speed.advance.Goals as goal

pub returns-then-is_over : goal.returns-then-is_over
returns-then-is_over c = frame_ends c.args.self.now.words c.args.first c.args.second (sym c.if-is_over.ensures)

pub overflow_sub-self : goal.overflow_sub-self
overflow_sub-self c = parity_le c.turn_sides.new.self.words (sound_of c.turn_sides.new.self)

pub invariant_of-self : goal.invariant_of-self
invariant_of-self c =
    let w = c.turn_sides.new.self.words in
    let s = sound_of c.turn_sides.new.self in
    let kept = still_lawful w (flipped w) _ s (flip_follows w s) refl in
    record { wide = kept.0; lawful = kept.1 }

pub returns : goal.returns
returns c =
    frame_goes c.args.self.now.words _ _ c.args.first c.args.second (sym c.if-is_over.ensures) c.make_moves.ensures c.turn_sides.ensures

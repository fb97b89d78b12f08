use Rattle.std.proofs.Common.{◌≡◌, true, sym, subst}
use Rattle.duel.specs.Boards.{sound}
use Rattle.duel.specs.Laws.{Frame}
use Rattle.duel.proofs.Frames.{played_sound, framed}
use Rattle.duel.specs.Moves.{sound_from, sound_test}
use Rattle.duel.proofs.state.Duel.advance.Goals as goal

pub invariant_of-self : goal.invariant_of-self
invariant_of-self c =
    let b = c.args.self.now.board in
    record { lawful = subst (λ a. sound a ≡ true) (sym c.play-self.ensures) (sound_test _ (played_sound b (sound_from b c.args.self.now.lawful) c.args.first c.args.second)) }

pub returns-clause-frame : goal.returns-clause-frame
returns-clause-frame c =
    let b = c.args.self.now.board in
    let i = c.args.first in
    let j = c.args.second in
    subst (λ a. Frame b a i j) (sym c.play-self.ensures) (framed b (sound_from b c.args.self.now.lawful) i j)

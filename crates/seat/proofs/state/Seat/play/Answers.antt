use Rattle.std.proofs.Common.{◌≡◌, ◌+◌, ◌%◌, set, sym, ap, ◌∙◌, arith}
use Rattle.frames.specs.Queue.{slots_after}
use Rattle.rollback.specs.Inputs.{setting}
use Rattle.rollback.proofs.Puts.{may_from, next_one}
use Rattle.seat.specs.Meaning.{view}
use Rattle.seat.proofs.Presses.{pressed_is}
use Rattle.seat.proofs.state.Seat.play.Goals as goal

pub invariant_of-self : goal.invariant_of-self
invariant_of-self g c =
    let s = c.args.self.now in
    let at = c.next-frame.ensures in
    let digested = s.digested in
    let within = s.within in
    let known = s.known_within in
    let news = s.news in
    let acknowledged = s.acknowledged_within in
    let may = may_from c.args.own.now s.own.next c.next-frame.result c.requires.own (omega arith) (omega arith) (omega arith) in
    let grown = next_one s.own.next c.put.new.self.next c.next-frame.result _ (sym at) may c.put.ensures.next in
    let dug = c.play_frame.ensures.next in
    record { digested = omega arith; within = omega arith; known_within = omega arith; lead = omega arith; news = omega arith; acknowledged_within = omega arith; unacknowledged = omega arith }

pub returns : goal.returns
returns g c =
    let s = c.args.self.now in
    let at = c.next-frame.ensures in
    let within = s.within in
    let may = may_from c.args.own.now s.own.next c.next-frame.result c.requires.own (omega arith) (omega arith) (omega arith) in
    let grown : c.put.new.self.next ≡ s.own.next + 1 = next_one s.own.next c.put.new.self.next c.next-frame.result _ (sym at) may c.put.ensures.next ∙ ap (λ n. n + 1) at in
    let put : c.put.new.slots ≡ set c.args.own.now (s.own.next % 32) c.args.input = c.put.ensures.slots ∙ ap (λ b. slots_after b c.args.own.now c.next-frame.result c.args.input) may ∙ ap (λ n. set c.args.own.now (n % 32) c.args.input) at in
    pressed_is (setting g.G.Game.next g.G.Input.InputKind.idle g.G.Input.InputKind.reads g.G.Input.InputKind.code g.H.GuessRule.guessed)
    (view g.K.Keeper.kept s c.args.own.now c.args.other.now c.args.digests.now) c.args.input c.put.new.slots c.put.new.self.next _ c.play_frame.new.slots c.next-frame.result at put grown c.play_frame.ensures.kept

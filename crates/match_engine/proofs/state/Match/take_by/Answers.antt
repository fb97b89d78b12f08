use Rattle.std.proofs.Common.{◌≡◌, Bool, true, false, cond, sym, subst}
use Rattle.rollback.specs.Inputs.{setting}
use Rattle.seat.specs.Calls.{or_refused, take_refusal, take_accepted, take_leaves}
use Rattle.refine.specs.Memory.{slot_lists}
use Rattle.match_engine.specs.Meaning.{seat_view}
use Rattle.match_engine.proofs.Doing.{at_seat}
use Rattle.match_engine.proofs.state.Match.take_by.Goals as goal

pub returns-then-second-clause-answer : goal.returns-then-second-clause-answer
returns-then-second-clause-answer g c =
    let r = (λ (s : Bool). setting g.G.Game.next g.G.Input.InputKind.idle g.G.Input.InputKind.reads g.G.Input.InputKind.code (cond s g.H1.GuessRule.guessed g.H0.GuessRule.guessed)) in
    let lent = slot_lists c.args.slots.own.now c.args.slots.other.now c.args.slots.digests.now in
    let e = c.if-second.true in
    let m = c.args.self.now in
    let bytes = c.args.bytes.now in
    subst (λ s. c.try_take.result ≡ or_refused (take_refusal (r s) (seat_view g.K0.Keeper.kept g.K1.Keeper.kept m s lent) bytes) (take_accepted (r s) (seat_view g.K0.Keeper.kept g.K1.Keeper.kept m s lent) bytes)) (sym e) c.try_take.ensures.answer

pub returns-then-second-clause-leaves : goal.returns-then-second-clause-leaves
returns-then-second-clause-leaves g c =
    let r = (λ (s : Bool). setting g.G.Game.next g.G.Input.InputKind.idle g.G.Input.InputKind.reads g.G.Input.InputKind.code (cond s g.H1.GuessRule.guessed g.H0.GuessRule.guessed)) in
    let lent = slot_lists c.args.slots.own.now c.args.slots.other.now c.args.slots.digests.now in
    let e = c.if-second.true in
    let m = c.args.self.now in
    let bytes = c.args.bytes.now in
    at_seat g.K0.Keeper.kept g.K1.Keeper.kept m (record { first = m.first; second = c.try_take.new.self; sent = m.sent }) c.args.second lent _ (λ s v. take_leaves (r s) v bytes) true e c.try_take.ensures.leaves

pub returns-clause-answer : goal.returns-clause-answer
returns-clause-answer g c =
    let r = (λ (s : Bool). setting g.G.Game.next g.G.Input.InputKind.idle g.G.Input.InputKind.reads g.G.Input.InputKind.code (cond s g.H1.GuessRule.guessed g.H0.GuessRule.guessed)) in
    let lent = slot_lists c.args.slots.own.now c.args.slots.other.now c.args.slots.digests.now in
    let e = c.if-second.false in
    let m = c.args.self.now in
    let bytes = c.args.bytes.now in
    subst (λ s. c.try_take-answer.result ≡ or_refused (take_refusal (r s) (seat_view g.K0.Keeper.kept g.K1.Keeper.kept m s lent) bytes) (take_accepted (r s) (seat_view g.K0.Keeper.kept g.K1.Keeper.kept m s lent) bytes)) (sym e) c.try_take-answer.ensures.answer

pub returns-clause-leaves : goal.returns-clause-leaves
returns-clause-leaves g c =
    let r = (λ (s : Bool). setting g.G.Game.next g.G.Input.InputKind.idle g.G.Input.InputKind.reads g.G.Input.InputKind.code (cond s g.H1.GuessRule.guessed g.H0.GuessRule.guessed)) in
    let lent = slot_lists c.args.slots.own.now c.args.slots.other.now c.args.slots.digests.now in
    let e = c.if-second.false in
    let m = c.args.self.now in
    let bytes = c.args.bytes.now in
    at_seat g.K0.Keeper.kept g.K1.Keeper.kept m (record { first = c.try_take-answer.new.self; second = m.second; sent = m.sent }) c.args.second lent _ (λ s v. take_leaves (r s) v bytes) false e c.try_take-answer.ensures.leaves

use Rattle.std.proofs.Common.{◌≡◌, Ok, Err, sym, refl, ap, ◌∙◌, subst}
use Rattle.std.proofs.lemmas.Bool.{true≢false}
use Rattle.std.proofs.lemmas.Result.{err_from_is_err_and}
use Rattle.datagram.specs.Meanings.{fields_read}
use Rattle.rollback.specs.Inputs.{setting}
use Rattle.seat.specs.Calls.{or_refused, take_accepted, report_differs, judged}
use Rattle.seat.specs.Laws.{Replays}
use Rattle.seat.specs.Meaning.{view}
use Rattle.seat.proofs.Takes.{passed}
use Rattle.seat.proofs.Whole.{lent, checked_ok, refused_leaves, refused_early, refused_late, late_leaves, accepted_take, accepted_replays}
use Rattle.seat.proofs.state.Seat.try_take.Goals as goal

pub returns-in_err-datagram-clause-answer : goal.returns-in_err-datagram-clause-answer
returns-in_err-datagram-clause-answer g c =
    let s = setting g.G.Game.next g.G.Input.InputKind.idle g.G.Input.InputKind.reads g.G.Input.InputKind.code g.H.GuessRule.guessed in
    let v = view g.K.Keeper.kept c.args.self.now c.args.slots.own.now c.args.slots.other.now c.args.slots.digests.now in
    let e = err_from_is_err_and c.from_residual.result c.from_residual.ensures.1 in
    e.1 ∙ ap Err e.2 ∙ sym (ap (λ o. or_refused o (take_accepted s v c.args.bytes.now)) (refused_early s v c.args.bytes.now (sym c.if-not-are_whole.ensures) _ c.in_err-datagram.ensures.answer))

pub returns-in_err-datagram-clause-leaves : goal.returns-in_err-datagram-clause-leaves
returns-in_err-datagram-clause-leaves g c =
    let s = setting g.G.Game.next g.G.Input.InputKind.idle g.G.Input.InputKind.reads g.G.Input.InputKind.code g.H.GuessRule.guessed in
    let v = view g.K.Keeper.kept c.args.self.now c.args.slots.own.now c.args.slots.other.now c.args.slots.digests.now in
    refused_leaves s v c.args.bytes.now _ (refused_early s v c.args.bytes.now (sym c.if-not-are_whole.ensures) _ c.in_err-datagram.ensures.answer)

pub catch_up-requires-clause-near : goal.catch_up-requires-clause-near
catch_up-requires-clause-near g c =
    let s = setting g.G.Game.next g.G.Input.InputKind.idle g.G.Input.InputKind.reads g.G.Input.InputKind.code g.H.GuessRule.guessed in
    let v = view g.K.Keeper.kept c.args.self.now c.args.slots.own.now c.args.slots.other.now c.args.slots.digests.now in
    let d = fields_read c.in_ok-datagram.datagram in
    (passed s v d (checked_ok s v c.args.bytes.now d c.in_ok-datagram.ensures.answer).2).ends_near

pub catch_up-requires-clause-within : goal.catch_up-requires-clause-within
catch_up-requires-clause-within g c =
    let s = setting g.G.Game.next g.G.Input.InputKind.idle g.G.Input.InputKind.reads g.G.Input.InputKind.code g.H.GuessRule.guessed in
    let v = view g.K.Keeper.kept c.args.self.now c.args.slots.own.now c.args.slots.other.now c.args.slots.digests.now in
    let d = fields_read c.in_ok-datagram.datagram in
    (passed s v d (checked_ok s v c.args.bytes.now d c.in_ok-datagram.ensures.answer).2).ends_within

pub returns-in_err-frames-clause-answer : goal.returns-in_err-frames-clause-answer
returns-in_err-frames-clause-answer g c =
    let s = setting g.G.Game.next g.G.Input.InputKind.idle g.G.Input.InputKind.reads g.G.Input.InputKind.code g.H.GuessRule.guessed in
    let v = view g.K.Keeper.kept c.args.self.now c.args.slots.own.now c.args.slots.other.now c.args.slots.digests.now in
    let d = fields_read c.in_ok-datagram.datagram in
    let e = err_from_is_err_and c.from_residual-in_err-frames.result c.from_residual-in_err-frames.ensures.1 in
    e.1 ∙ ap Err e.2 ∙ sym (ap (λ o. or_refused o (take_accepted s v c.args.bytes.now)) (refused_late s v c.args.bytes.now (sym c.if-not-are_whole.ensures) d _ c.in_ok-datagram.ensures.answer c.in_err-frames.ensures.answer))

pub returns-in_err-frames-clause-leaves : goal.returns-in_err-frames-clause-leaves
returns-in_err-frames-clause-leaves g c =
    let s = setting g.G.Game.next g.G.Input.InputKind.idle g.G.Input.InputKind.reads g.G.Input.InputKind.code g.H.GuessRule.guessed in
    let v = view g.K.Keeper.kept c.args.self.now c.args.slots.own.now c.args.slots.other.now c.args.slots.digests.now in
    let d = fields_read c.in_ok-datagram.datagram in
    late_leaves s v c.args.bytes.now (sym c.if-not-are_whole.ensures) d _ _ c.in_ok-datagram.ensures.answer c.in_err-frames.ensures.answer c.catch_up.ensures.leaves

pub returns : goal.returns
returns g c =
    let s = setting g.G.Game.next g.G.Input.InputKind.idle g.G.Input.InputKind.reads g.G.Input.InputKind.code g.H.GuessRule.guessed in
    let v = view g.K.Keeper.kept c.args.self.now c.args.slots.own.now c.args.slots.other.now c.args.slots.digests.now in
    let d = fields_read c.in_ok-datagram.datagram in
    let given = sym c.if-not-are_whole.ensures in
    let n = c.in_ok-frames.frames in
    let caught = view g.K.Keeper.kept c.catch_up.new.self c.args.slots.own.now c.catch_up.new.other c.catch_up.new.digests in
    let told = report_differs s caught d c.catch_up.new.digests in
    let left : view g.K.Keeper.kept c.judge.new.self c.args.slots.own.now c.catch_up.new.other c.catch_up.new.digests ≡ judged caught told =
    ap (λ x. lent x c.args.slots.own.now c.catch_up.new.other c.catch_up.new.digests) c.judge.ensures.leaves in
    let r = accepted_take s v c.args.bytes.now given d n caught told c.in_ok-datagram.ensures.answer c.in_ok-frames.ensures.answer c.catch_up.ensures.leaves refl in
    record {
      answer = ap (λ x. Ok (x, n)) c.judge.ensures.how ∙ r.0;
      leaves = left ∙ r.1;
      replays = subst (λ x. Replays s v x n) (sym left) (accepted_replays s v c.args.bytes.now given d n caught told c.in_ok-frames.ensures.answer c.catch_up.ensures.leaves);
      same = λ no. absurd (true≢false no);
    }

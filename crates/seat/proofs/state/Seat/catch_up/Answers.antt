use Rattle.std.proofs.Common.{◌≡◌, ◌-◌, max, Ok, Err, sym, refl, ap, ◌∙◌}
use Rattle.std.proofs.lemmas.Result.{err_from_is_err_and}
use Rattle.std.proofs.lemmas.Bool.{true≢false}
use Rattle.datagram.specs.Meanings.{fields_read}
use Rattle.rollback.specs.Inputs.{setting}
use Rattle.seat.specs.Calls.{or_refused, frames_replayed}
use Rattle.seat.specs.Meaning.{view}
use Rattle.seat.proofs.Checks.{changed_by}
use Rattle.interface.proofs.Reach.{refused_by, back_keeps}
use Rattle.interface.specs.declared.answers.Refusal.TheVariants.{OutOfReach}
use Rattle.seat.proofs.Same.{same_seat}
use Rattle.seat.proofs.Takes.{back_ok, back_drops, caught_is, reached, unreached, as_before}
use Rattle.seat.proofs.state.Seat.catch_up.Goals as goal

pub returns : goal.returns
returns g c =
    let s = setting g.G.Game.next g.G.Input.InputKind.idle g.G.Input.InputKind.reads g.G.Input.InputKind.code g.H.GuessRule.guessed in
    let v = view g.K.Keeper.kept c.args.self.now c.args.own.now c.args.other.now c.args.digests.now in
    let d = fields_read c.args.datagram.now in
    let n = c.saturating_sub-frames.result in
    let is : n ≡ frames_replayed s v d = c.saturating_sub-frames.ensures ∙ (λ i. c.next-played.ensures i - c.lowest_change.ensures i) in
    let went = back_ok n v.states c.in_ok-debt.debt (sym c.go_back.ensures.answer ∙ c.in_ok-debt.was) in
    let may = reached s v d n is went.0 in
    record {
      answer = ap Ok is ∙ sym (ap (λ o. or_refused o (frames_replayed s v d)) may);
      leaves = caught_is s v d n (c.next-played.result - n) c.in_ok-debt.debt.owed _ _ _ _ _ _ is (ap (λ x. x - n) c.next-played.ensures) went.1 c.keep_codes.ensures.slots c.keep_codes.ensures.next (c.max-self.ensures ∙ ap (max c.args.self.now.acknowledged) c.from.ensures) (back_drops n v.states _ went.0 c.go_back.ensures.states) c.pay_off.ensures.kept ∙ changed_by _ v _ may;
      same = λ no. absurd (true≢false no);
    }

pub returns-in_err-debt : goal.returns-in_err-debt
returns-in_err-debt g c =
    let s = setting g.G.Game.next g.G.Input.InputKind.idle g.G.Input.InputKind.reads g.G.Input.InputKind.code g.H.GuessRule.guessed in
    let v = view g.K.Keeper.kept c.args.self.now c.args.own.now c.args.other.now c.args.digests.now in
    let d = fields_read c.args.datagram.now in
    let n = c.saturating_sub-frames.result in
    let is : n ≡ frames_replayed s v d = c.saturating_sub-frames.ensures ∙ (λ i. c.next-played.ensures i - c.lowest_change.ensures i) in
    let e = err_from_is_err_and c.from_residual.result c.from_residual.ensures.1 in
    let told = c.in_err-debt.ensures in
    let why = refused_by n v.states c.in_err-debt.field-0.0 told.answer in
    let none = unreached s v d n is why.1 in
    record {
      answer = e.1 ∙ ap Err (e.2 ∙ why.0) ∙ sym (ap (λ o. or_refused o (frames_replayed s v d)) none);
      leaves = as_before s v d _ OutOfReach (told.states ∙ back_keeps n v.states why.1) none;
      same = λ _. same_seat c.args.self.now c.go_back.new.self _ _ _ _ _ _ _ (told.same refl);
    }

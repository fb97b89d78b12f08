use Rattle.std.proofs.Common.{◌≡◌, sym, ap, ◌∙◌}
use Rattle.datagram.specs.Fields.{Fields}
use Rattle.rollback.specs.Inputs.{setting}
use Rattle.seat.specs.Calls.{to_send}
use Rattle.seat.specs.Meaning.{view}
use Rattle.seat.specs.Views.{digest_at}
use Rattle.seat.proofs.Checks.{seat_is}
use Rattle.seat.proofs.Sends.{sent_leaves, sends_held}
use Rattle.seat.proofs.state.Seat.try_send.Goals as goal

pub returns-clause-bytes : goal.returns-clause-bytes
returns-clause-bytes g c =
    let s = setting g.G.Game.next g.G.Input.InputKind.idle g.G.Input.InputKind.reads g.G.Input.InputKind.code g.H.GuessRule.guessed in
    let v = view g.K.Keeper.kept c.args.self.now c.args.slots.own.now c.args.slots.other.now c.args.slots.digests.now in
    let confirmed = c.confirmed-confirmed.ensures in
    let sender = c.from.ensures ∙ seat_is c.args.self.now.second in
    let digest = c.digest_at.ensures ∙ ap (digest_at v) confirmed in
    let fields : ◌≡◌ {A = Fields} _ (to_send s v) = λ i. record { sender = sender i; match_number = v.match_number; start = v.acknowledged; codes = c.unacknowledged_codes.ensures i; acknowledgement = c.next.ensures i; report_frame = confirmed i; digest = digest i } in
    sent_leaves s v c.args.buffer.now _ (sym c.if-not-are_whole.ensures) _ fields c.write.ensures.bytes

pub returns-clause-held : goal.returns-clause-held
returns-clause-held g c =
    let seat = c.args.self.now in
    sends_held _ _ seat.acknowledged_within seat.unacknowledged seat.lead

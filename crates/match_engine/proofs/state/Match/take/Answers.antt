use Rattle.std.proofs.Common.{true, false, sym, ◌∙◌, arith}
use Rattle.interface.specs.declared.answers.Refusal.TheVariants.{NoSuchDatagram}
use Rattle.seat.proofs.Whole.{refused_answer, accepted_answer}
use Rattle.refine.specs.Setup.{setup, setting_of}
use Rattle.refine.specs.Memory.{slot_lists}
use Rattle.refine.specs.Outcomes.{Taking, numbered}
use Rattle.match_engine.specs.Log.{entries}
use Rattle.match_engine.specs.Meaning.{seat_view, memory}
use Rattle.match_engine.proofs.Doing.{no_seat, wrong_slots, wrong_log, lent_whole, take_does}
use Rattle.match_engine.proofs.Logs.{past_log, past_sent, own_sent, others_sent, datagram_is}
use Rattle.match_engine.proofs.state.Match.take.Goals.{then-at-log-via-then-at-log, then-at-log-via-else-at-log+then-at-self, then-at-log-via-else-at-log+else-at-self+then-log-at, in-Ok, in-Err}
use Rattle.match_engine.proofs.state.Match.take.Goals as goal

pub returns-then-seat-gt1-clause-does : goal.returns-then-seat-gt1-clause-does
returns-then-seat-gt1-clause-does g c opening rest =
    let a = setup opening g.G.Game.next g.G.Input.InputKind.idle g.G.Input.InputKind.reads g.G.Input.InputKind.code g.H0.GuessRule.guessed g.H1.GuessRule.guessed in
    let lent = slot_lists c.args.slots.own.now c.args.slots.other.now c.args.slots.digests.now in
    let m = c.args.self.now in
    let n = c.args.seat in
    let log = c.args.log.now in
    let b = memory g.K0.Keeper.kept g.K1.Keeper.kept m n lent rest (entries log) in
    no_seat a (record { fits = g.met.G.Input.InputKind.code_fits; reads_back = g.met.G.Input.InputKind.reads_back }) b n (Taking c.args.k) tt c.number.result (omega arith) c.number.ensures

pub returns-then-not-are_whole-clause-does : goal.returns-then-not-are_whole-clause-does
returns-then-not-are_whole-clause-does g c opening rest =
    let a = setup opening g.G.Game.next g.G.Input.InputKind.idle g.G.Input.InputKind.reads g.G.Input.InputKind.code g.H0.GuessRule.guessed g.H1.GuessRule.guessed in
    let lent = slot_lists c.args.slots.own.now c.args.slots.other.now c.args.slots.digests.now in
    let m = c.args.self.now in
    let n = c.args.seat in
    let log = c.args.log.now in
    let b = memory g.K0.Keeper.kept g.K1.Keeper.kept m n lent rest (entries log) in
    wrong_slots a (record { fits = g.met.G.Input.InputKind.code_fits; reads_back = g.met.G.Input.InputKind.reads_back }) b n (Taking c.args.k) tt c.number-then-not-are_whole.result (omega arith) (lent_whole g.K0.Keeper.kept g.K1.Keeper.kept m n lent rest (entries log) false (sym c.if-not-are_whole.ensures)) c.number-then-not-are_whole.ensures

pub returns-then-at-log-clause-does : goal.returns-then-at-log-clause-does
returns-then-at-log-clause-does g c opening rest =
    let a = setup opening g.G.Game.next g.G.Input.InputKind.idle g.G.Input.InputKind.reads g.G.Input.InputKind.code g.H0.GuessRule.guessed g.H1.GuessRule.guessed in
    let lent = slot_lists c.args.slots.own.now c.args.slots.other.now c.args.slots.digests.now in
    let m = c.args.self.now in
    let n = c.args.seat in
    let log = c.args.log.now in
    let b = memory g.K0.Keeper.kept g.K1.Keeper.kept m n lent rest (entries log) in
    wrong_log a (record { fits = g.met.G.Input.InputKind.code_fits; reads_back = g.met.G.Input.InputKind.reads_back }) b n (Taking c.args.k) tt c.number-then-at-log.result NoSuchDatagram (omega arith) (lent_whole g.K0.Keeper.kept g.K1.Keeper.kept m n lent rest (entries log) true (sym c.if-not-are_whole.ensures))
    (elim c.then-at-log.branch [
      | then-at-log-via-then-at-log w ↦ past_log g.K0.Keeper.kept g.K1.Keeper.kept m n lent rest log c.args.k (omega (arith, w.if-at-log.true))
      | then-at-log-via-else-at-log+then-at-self w ↦ past_sent g.K0.Keeper.kept g.K1.Keeper.kept m n lent rest log c.args.k (omega (arith, w.if-at-log.false)) (omega (arith, w.if-at-self.true))
      | then-at-log-via-else-at-log+else-at-self+then-log-at w ↦ own_sent g.K0.Keeper.kept g.K1.Keeper.kept m n lent rest log c.args.k _ (omega (arith, w.if-at-log.false)) (omega (arith, w.if-at-self.false)) w.if-log-at.true
    ])
    c.number-then-at-log.ensures

pub returns-clause-does : goal.returns-clause-does
returns-clause-does g c opening rest =
    let a = setup opening g.G.Game.next g.G.Input.InputKind.idle g.G.Input.InputKind.reads g.G.Input.InputKind.code g.H0.GuessRule.guessed g.H1.GuessRule.guessed in
    let lent = slot_lists c.args.slots.own.now c.args.slots.other.now c.args.slots.digests.now in
    let m = c.args.self.now in
    let n = c.args.seat in
    let log = c.args.log.now in
    let b = memory g.K0.Keeper.kept g.K1.Keeper.kept m n lent rest (entries log) in
    let acting = seat_view g.K0.Keeper.kept g.K1.Keeper.kept m (numbered n) lent in
    let bytes = c.datagram.result.now in
    take_does g.K0.Keeper.kept g.K1.Keeper.kept a (record { fits = g.met.G.Input.InputKind.code_fits; reads_back = g.met.G.Input.InputKind.reads_back }) m c.take_by.new.self n (omega arith) lent _ rest (entries log) c.take_by.ensures.rest c.args.k bytes c.match-take_by.result (sym c.if-not-are_whole.ensures)
    (others_sent g.K0.Keeper.kept g.K1.Keeper.kept m n lent rest log c.args.k c.index-log-at.result (omega (arith, c.if-at-log.false)) (omega (arith, c.if-at-self.false)) c.if-log-at.false)
    (c.datagram.ensures ∙ datagram_is g.K0.Keeper.kept g.K1.Keeper.kept m n lent rest log c.args.k c.index-log-at-2.result c.index-log-at-2.is (omega (arith, c.if-at-log.false)))
    (elim c.match-take_by.branch [
      | in-Ok w ↦ w.result-is ∙ accepted_answer (setting_of a (numbered n)) acting bytes _ _ _ w.in-Ok.ensures.answer w.number-in-Ok.ensures
      | in-Err w ↦ w.result-is ∙ refused_answer (setting_of a (numbered n)) acting bytes _ _ w.in-Err.ensures.answer w.number-in-Err.ensures
    ])
    c.take_by.ensures.leaves

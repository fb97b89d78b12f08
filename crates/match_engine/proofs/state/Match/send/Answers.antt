use Rattle.std.proofs.Common.{true, false, sym, arith}
use Rattle.interface.specs.declared.answers.Refusal.TheVariants.{LogFull}
use Rattle.refine.specs.Setup.{setup}
use Rattle.refine.specs.Memory.{slot_lists}
use Rattle.refine.specs.Outcomes.{Sending}
use Rattle.match_engine.specs.Log.{entries}
use Rattle.match_engine.specs.Meaning.{memory}
use Rattle.match_engine.proofs.Doing.{no_seat, wrong_slots, wrong_log, lent_whole}
use Rattle.match_engine.proofs.Logs.{roomy, log_full, send_does, send_refuses}
use Rattle.match_engine.proofs.state.Match.send.Goals as goal

pub returns-then-seat-gt1-clause-does : goal.returns-then-seat-gt1-clause-does
returns-then-seat-gt1-clause-does g c opening rest =
    let a = setup opening g.G.Game.next g.G.Input.InputKind.idle g.G.Input.InputKind.reads g.G.Input.InputKind.code g.H0.GuessRule.guessed g.H1.GuessRule.guessed in
    let lent = slot_lists c.args.slots.own.now c.args.slots.other.now c.args.slots.digests.now in
    let m = c.args.self.now in
    let n = c.args.seat in
    let log = c.args.log.now in
    let b = memory g.K0.Keeper.kept g.K1.Keeper.kept m n lent rest (entries log) in
    no_seat a (record { fits = g.met.G.Input.InputKind.code_fits; reads_back = g.met.G.Input.InputKind.reads_back }) b n Sending (roomy g.K0.Keeper.kept g.K1.Keeper.kept m n lent rest log) c.number.result (omega arith) c.number.ensures

pub returns-then-not-are_whole-clause-does : goal.returns-then-not-are_whole-clause-does
returns-then-not-are_whole-clause-does g c opening rest =
    let a = setup opening g.G.Game.next g.G.Input.InputKind.idle g.G.Input.InputKind.reads g.G.Input.InputKind.code g.H0.GuessRule.guessed g.H1.GuessRule.guessed in
    let lent = slot_lists c.args.slots.own.now c.args.slots.other.now c.args.slots.digests.now in
    let m = c.args.self.now in
    let n = c.args.seat in
    let log = c.args.log.now in
    let b = memory g.K0.Keeper.kept g.K1.Keeper.kept m n lent rest (entries log) in
    wrong_slots a (record { fits = g.met.G.Input.InputKind.code_fits; reads_back = g.met.G.Input.InputKind.reads_back }) b n Sending (roomy g.K0.Keeper.kept g.K1.Keeper.kept m n lent rest log) c.number-then-not-are_whole.result (omega arith) (lent_whole g.K0.Keeper.kept g.K1.Keeper.kept m n lent rest (entries log) false (sym c.if-not-are_whole.ensures)) c.number-then-not-are_whole.ensures

pub returns-then-self-log-clause-does : goal.returns-then-self-log-clause-does
returns-then-self-log-clause-does g c opening rest =
    let a = setup opening g.G.Game.next g.G.Input.InputKind.idle g.G.Input.InputKind.reads g.G.Input.InputKind.code g.H0.GuessRule.guessed g.H1.GuessRule.guessed in
    let lent = slot_lists c.args.slots.own.now c.args.slots.other.now c.args.slots.digests.now in
    let m = c.args.self.now in
    let n = c.args.seat in
    let log = c.args.log.now in
    let b = memory g.K0.Keeper.kept g.K1.Keeper.kept m n lent rest (entries log) in
    wrong_log a (record { fits = g.met.G.Input.InputKind.code_fits; reads_back = g.met.G.Input.InputKind.reads_back }) b n Sending (roomy g.K0.Keeper.kept g.K1.Keeper.kept m n lent rest log) c.number-then-self-log.result LogFull (omega arith) (lent_whole g.K0.Keeper.kept g.K1.Keeper.kept m n lent rest (entries log) true (sym c.if-not-are_whole.ensures)) (log_full g.K0.Keeper.kept g.K1.Keeper.kept m n lent rest log (omega (arith, c.if-self-log.true))) c.number-then-self-log.ensures

pub returns-in-Err-clause-does : goal.returns-in-Err-clause-does
returns-in-Err-clause-does g c opening rest =
    let a = setup opening g.G.Game.next g.G.Input.InputKind.idle g.G.Input.InputKind.reads g.G.Input.InputKind.code g.H0.GuessRule.guessed g.H1.GuessRule.guessed in
    let lent = slot_lists c.args.slots.own.now c.args.slots.other.now c.args.slots.digests.now in
    send_refuses g.K0.Keeper.kept g.K1.Keeper.kept c.args.self.now c.args.seat lent rest c.args.log.now a (record { fits = g.met.G.Input.InputKind.code_fits; reads_back = g.met.G.Input.InputKind.reads_back }) (omega arith) (sym c.if-not-are_whole.ensures) (omega (arith, c.if-self-log.false)) _ c.send_by-sent.ensures.slots c.index-log-self.result c.send_by-sent.new.to c.send_by-sent.result c.send_by-sent.ensures.answer c.send_by-sent.ensures.written c.in-Err.why _ c.in-Err.is c.number-in-Err.ensures

pub returns-clause-does : goal.returns-clause-does
returns-clause-does g c opening rest =
    let a = setup opening g.G.Game.next g.G.Input.InputKind.idle g.G.Input.InputKind.reads g.G.Input.InputKind.code g.H0.GuessRule.guessed g.H1.GuessRule.guessed in
    let lent = slot_lists c.args.slots.own.now c.args.slots.other.now c.args.slots.digests.now in
    send_does g.K0.Keeper.kept g.K1.Keeper.kept c.args.self.now c.args.seat lent rest c.args.log.now a (record { fits = g.met.G.Input.InputKind.code_fits; reads_back = g.met.G.Input.InputKind.reads_back }) (omega arith) (sym c.if-not-are_whole.ensures) (omega (arith, c.if-self-log.false)) _ c.send_by-sent.ensures.slots c.index-log-self.result c.send_by-sent.new.to c.send_by-sent.result c.send_by-sent.ensures.answer c.send_by-sent.ensures.written _ c.in_default.is c.number-2.ensures

use Rattle.std.proofs.Common.{arith, ◌∙◌}
use Rattle.seat.proofs.Checks.{or_ok, or_err, answered_by, accepted_by}
use Rattle.refine.specs.Setup.{setup}
use Rattle.refine.specs.Memory.{slot_lists}
use Rattle.refine.specs.Outcomes.{Pressing}
use Rattle.match_engine.specs.Meaning.{memory}
use Rattle.match_engine.proofs.Doing.{no_seat, press_does}
use Rattle.match_engine.proofs.state.Match.press.Goals.{in-Ok, in-Err}
use Rattle.match_engine.proofs.state.Match.press.Goals as goal

pub returns-then-seat-gt1-clause-does : goal.returns-then-seat-gt1-clause-does
returns-then-seat-gt1-clause-does g c opening rest log =
    let a = setup opening g.G.Game.next g.G.Input.InputKind.idle g.G.Input.InputKind.reads g.G.Input.InputKind.code g.H0.GuessRule.guessed g.H1.GuessRule.guessed in
    let lent = slot_lists c.args.slots.own.now c.args.slots.other.now c.args.slots.digests.now in
    let b = memory g.K0.Keeper.kept g.K1.Keeper.kept c.args.self.now c.args.seat lent rest log in
    no_seat a (record { fits = g.met.G.Input.InputKind.code_fits; reads_back = g.met.G.Input.InputKind.reads_back }) b c.args.seat (Pressing c.args.code) tt c.number.result (omega arith) c.number.ensures

pub returns-clause-does : goal.returns-clause-does
returns-clause-does g c opening rest log =
    let a = setup opening g.G.Game.next g.G.Input.InputKind.idle g.G.Input.InputKind.reads g.G.Input.InputKind.code g.H0.GuessRule.guessed g.H1.GuessRule.guessed in
    let lent = slot_lists c.args.slots.own.now c.args.slots.other.now c.args.slots.digests.now in
    press_does g.K0.Keeper.kept g.K1.Keeper.kept a (record { fits = g.met.G.Input.InputKind.code_fits; reads_back = g.met.G.Input.InputKind.reads_back }) c.args.self.now c.press_by.new.self c.args.seat (omega arith) lent _ rest log c.press_by.ensures.rest c.args.code c.match-press_by.result
    (elim c.match-press_by.branch [
      | in-Ok w ↦ w.result-is ∙ w.number-in-Ok.ensures ∙ accepted_by _ (or_ok _ _ _ w.in-Ok.ensures.answer).0
      | in-Err w ↦ w.result-is ∙ answered_by _ _ _ (or_err _ _ _ w.in-Err.ensures.answer) w.number-in-Err.ensures
    ])
    c.press_by.ensures.leaves

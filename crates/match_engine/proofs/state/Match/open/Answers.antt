use Rattle.std.proofs.Common.{rules, sym, refl}
use Rattle.refine.specs.Setup.{setup}
use Rattle.refine.specs.Memory.{slot_lists}
use Rattle.match_engine.proofs.Opens.{match_stands}
use Rattle.match_engine.proofs.state.Match.open.Goals as goal

pub returns-clause-leaves : goal.returns-clause-leaves
returns-clause-leaves g c = search rules

pub returns-clause-stands : goal.returns-clause-stands
returns-clause-stands g c =
    let opening = g.G.Game.opening c.args.seed in
    let a = setup opening g.G.Game.next g.G.Input.InputKind.idle g.G.Input.InputKind.reads g.G.Input.InputKind.code g.H0.GuessRule.guessed g.H1.GuessRule.guessed in
    let x = slot_lists c.args.first.own.now c.args.first.other.now c.args.first.digests.now in
    let y = slot_lists c.args.second.own.now c.args.second.other.now c.args.second.digests.now in
    match_stands g.K0.Keeper.kept g.K1.Keeper.kept opening c.args.match_number (record { first = c.unwrap-seat_0.result; second = c.unwrap-seat_1.result; sent = 0 }) x _ y _ refl a refl c.ranges.match_number.fits (sym c.if-not-are_whole.ensures) (sym c.if-not-are_whole-2.ensures) (returns-clause-leaves g c)

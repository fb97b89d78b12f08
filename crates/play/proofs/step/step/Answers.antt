use Rattle.std.proofs.Common.{true, false}
use Rattle.refine.specs.Setup.{setup}
use Rattle.refine.specs.Memory.{slot_lists}
use Rattle.match_engine.specs.Log.{entries}
use Rattle.std.proofs.lemmas.Bool.{eq-eqb, ne_eqb}
use Rattle.play.specs.Turns.{step_of}
use Rattle.play.proofs.Steps.{step_leaves, step_told}
use Rattle.play.proofs.step.step.Goals as goal

pub returns-then-second : goal.returns-then-second
returns-then-second g c =
    record {
      leaves = λ opening.
          let a = setup opening g.G.Game.next g.G.Input.InputKind.idle g.G.Input.InputKind.reads g.G.Input.InputKind.code g.H0.GuessRule.guessed g.H1.GuessRule.guessed in
          let t = step_of c.args.turn in
          let rest = slot_lists c.args.own_0.now c.args.other_0.now c.args.digests_0.now in
          step_leaves g.K0.Keeper.kept g.K1.Keeper.kept a c.args.game.now c.make_turn-code.new.game t (slot_lists c.args.own_1.now c.args.other_1.now c.args.digests_1.now) (slot_lists c.make_turn-code.new.own c.make_turn-code.new.other c.make_turn-code.new.digests) rest (entries c.args.log.now) (entries c.make_turn-code.new.log) true (eq-eqb c.args.turn.seat 1 c.if-second.true) (c.make_turn-code.ensures.leaves opening rest);
      told = λ opening.
          let a = setup opening g.G.Game.next g.G.Input.InputKind.idle g.G.Input.InputKind.reads g.G.Input.InputKind.code g.H0.GuessRule.guessed g.H1.GuessRule.guessed in
          let t = step_of c.args.turn in
          let rest = slot_lists c.args.own_0.now c.args.other_0.now c.args.digests_0.now in
          step_told g.K0.Keeper.kept g.K1.Keeper.kept a c.args.game.now c.make_turn-code.new.game t (slot_lists c.args.own_1.now c.args.other_1.now c.args.digests_1.now) (slot_lists c.make_turn-code.new.own c.make_turn-code.new.other c.make_turn-code.new.digests) rest (entries c.args.log.now) (entries c.make_turn-code.new.log) true (eq-eqb c.args.turn.seat 1 c.if-second.true) c.make_turn-code.result.0 c.make_turn-code.result.1 c.played.result c.known.result (step_leaves g.K0.Keeper.kept g.K1.Keeper.kept a c.args.game.now c.make_turn-code.new.game t (slot_lists c.args.own_1.now c.args.other_1.now c.args.digests_1.now) (slot_lists c.make_turn-code.new.own c.make_turn-code.new.other c.make_turn-code.new.digests) rest (entries c.args.log.now) (entries c.make_turn-code.new.log) true (eq-eqb c.args.turn.seat 1 c.if-second.true) (c.make_turn-code.ensures.leaves opening rest)) (c.make_turn-code.ensures.answers opening rest) c.played.ensures c.known.ensures;
    }

pub returns : goal.returns
returns g c =
    record {
      leaves = λ opening.
          let a = setup opening g.G.Game.next g.G.Input.InputKind.idle g.G.Input.InputKind.reads g.G.Input.InputKind.code g.H0.GuessRule.guessed g.H1.GuessRule.guessed in
          let t = step_of c.args.turn in
          let rest = slot_lists c.args.own_1.now c.args.other_1.now c.args.digests_1.now in
          step_leaves g.K0.Keeper.kept g.K1.Keeper.kept a c.args.game.now c.make_turn-code-2.new.game t (slot_lists c.args.own_0.now c.args.other_0.now c.args.digests_0.now) (slot_lists c.make_turn-code-2.new.own c.make_turn-code-2.new.other c.make_turn-code-2.new.digests) rest (entries c.args.log.now) (entries c.make_turn-code-2.new.log) false (ne_eqb c.args.turn.seat 1 c.if-second.false) (c.make_turn-code-2.ensures.leaves opening rest);
      told = λ opening.
          let a = setup opening g.G.Game.next g.G.Input.InputKind.idle g.G.Input.InputKind.reads g.G.Input.InputKind.code g.H0.GuessRule.guessed g.H1.GuessRule.guessed in
          let t = step_of c.args.turn in
          let rest = slot_lists c.args.own_1.now c.args.other_1.now c.args.digests_1.now in
          step_told g.K0.Keeper.kept g.K1.Keeper.kept a c.args.game.now c.make_turn-code-2.new.game t (slot_lists c.args.own_0.now c.args.other_0.now c.args.digests_0.now) (slot_lists c.make_turn-code-2.new.own c.make_turn-code-2.new.other c.make_turn-code-2.new.digests) rest (entries c.args.log.now) (entries c.make_turn-code-2.new.log) false (ne_eqb c.args.turn.seat 1 c.if-second.false) c.make_turn-code-2.result.0 c.make_turn-code-2.result.1 c.played-2.result c.known-2.result (step_leaves g.K0.Keeper.kept g.K1.Keeper.kept a c.args.game.now c.make_turn-code-2.new.game t (slot_lists c.args.own_0.now c.args.other_0.now c.args.digests_0.now) (slot_lists c.make_turn-code-2.new.own c.make_turn-code-2.new.other c.make_turn-code-2.new.digests) rest (entries c.args.log.now) (entries c.make_turn-code-2.new.log) false (ne_eqb c.args.turn.seat 1 c.if-second.false) (c.make_turn-code-2.ensures.leaves opening rest)) (c.make_turn-code-2.ensures.answers opening rest) c.played-2.ensures c.known-2.ensures;
    }

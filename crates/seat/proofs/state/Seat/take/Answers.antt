use Rattle.std.proofs.Common.{◌∙◌, sym, subst}
use Rattle.rollback.specs.Inputs.{setting}
use Rattle.seat.specs.Laws.{Replays}
use Rattle.seat.specs.Meaning.{view}
use Rattle.seat.proofs.Whole.{refused_answer, accepted_answer, refused_replays}
use Rattle.seat.proofs.state.Seat.take.Goals.{in-Ok, in-Err}
use Rattle.seat.proofs.state.Seat.take.Goals as goal

pub returns-clause-answer : goal.returns-clause-answer
returns-clause-answer g c =
    let s = setting g.G.Game.next g.G.Input.InputKind.idle g.G.Input.InputKind.reads g.G.Input.InputKind.code g.H.GuessRule.guessed in
    let v = view g.K.Keeper.kept c.args.self.now c.args.slots.own.now c.args.slots.other.now c.args.slots.digests.now in
    elim c.match-try_take.branch [
      | in-Ok w ↦ w.result-is ∙ accepted_answer s v c.args.bytes.now _ _ _ w.in-Ok.ensures.answer w.number.ensures
      | in-Err w ↦ w.result-is ∙ refused_answer s v c.args.bytes.now _ _ w.in-Err.ensures.answer w.number-in-Err.ensures
    ]

pub returns-clause-replays : goal.returns-clause-replays
returns-clause-replays g c =
    let s = setting g.G.Game.next g.G.Input.InputKind.idle g.G.Input.InputKind.reads g.G.Input.InputKind.code g.H.GuessRule.guessed in
    let v = view g.K.Keeper.kept c.args.self.now c.args.slots.own.now c.args.slots.other.now c.args.slots.digests.now in
    let left = view g.K.Keeper.kept c.try_take.new.self c.try_take.new.slots.0 c.try_take.new.slots.1.0 c.try_take.new.slots.1.1.0 in
    elim c.match-try_take.branch [
      | in-Ok w ↦ subst (λ x. Replays s v left x.1) (sym w.result-is) w.in-Ok.ensures.replays
      | in-Err w ↦ subst (λ x. Replays s v left x.1) (sym w.result-is) (refused_replays s v c.args.bytes.now _ left w.in-Err.ensures.answer c.try_take.ensures.leaves)
    ]

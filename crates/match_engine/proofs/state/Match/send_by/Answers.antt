use Rattle.std.proofs.Common.{◌≡◌, Bool, cond, sym, subst}
use Rattle.rollback.specs.Inputs.{setting}
use Rattle.refine.specs.Memory.{slot_lists}
use Rattle.match_engine.specs.Log.{entry_of, sent_entry}
use Rattle.match_engine.specs.Meaning.{seat_view}
use Rattle.match_engine.proofs.state.Match.send_by.Goals as goal

pub returns-then-second-clause-written : goal.returns-then-second-clause-written
returns-then-second-clause-written g c =
    let r = (λ (s : Bool). setting g.G.Game.next g.G.Input.InputKind.idle g.G.Input.InputKind.reads g.G.Input.InputKind.code (cond s g.H1.GuessRule.guessed g.H0.GuessRule.guessed)) in
    let lent = slot_lists c.args.slots.own.now c.args.slots.other.now c.args.slots.digests.now in
    subst (λ s. entry_of c.write_record.new.to ≡ sent_entry (r s) (seat_view g.K0.Keeper.kept g.K1.Keeper.kept c.args.self.now s lent) s (entry_of c.args.to.now)) (sym c.if-second.true) c.write_record.ensures.written

pub returns-clause-written : goal.returns-clause-written
returns-clause-written g c =
    let r = (λ (s : Bool). setting g.G.Game.next g.G.Input.InputKind.idle g.G.Input.InputKind.reads g.G.Input.InputKind.code (cond s g.H1.GuessRule.guessed g.H0.GuessRule.guessed)) in
    let lent = slot_lists c.args.slots.own.now c.args.slots.other.now c.args.slots.digests.now in
    subst (λ s. entry_of c.write_record-answer.new.to ≡ sent_entry (r s) (seat_view g.K0.Keeper.kept g.K1.Keeper.kept c.args.self.now s lent) s (entry_of c.args.to.now)) (sym c.if-second.false) c.write_record-answer.ensures.written

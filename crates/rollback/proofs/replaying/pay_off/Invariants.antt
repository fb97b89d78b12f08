use Rattle.rollback.specs.Inputs.{setting}
use Rattle.rollback.specs.Meanings.{inputs_of}
use Rattle.rollback.specs.Replay.{kept_states, frames_from}
use Rattle.rollback.proofs.Steps.{Owing}
use Rattle.rollback.proofs.replaying.pay_off.Given as goal

abbrev pub invariant-loop-frame : goal.invariant-loop-frame
invariant-loop-frame g l =
    let s = setting g.G.Game.next g.G.Input.InputKind.idle g.G.Input.InputKind.reads g.G.Input.InputKind.code g.H.GuessRule.guessed in
    let kept = g.K.Keeper.kept in
    Owing s l.second (inputs_of l.inputs) l.initial.frame l.initial.debt.owed l.initial.digests.next
    (frames_from s l.second (inputs_of l.inputs) l.initial.frame l.initial.debt.owed (kept_states (kept l.initial.keeper).states l.initial.slots))
    l.frame l.debt.owed l.digests.next (kept_states (kept l.keeper).states l.slots)

use Rattle.std.proofs.Common.{ap, ◌∙◌, arith}
use Rattle.worked_cases.specs.Scripts.{scripted}
use Rattle.worked_cases.proofs.Following.{scripted_more, scripted_all}
use Rattle.worked_cases.proofs.keeper_scripts.play_script.Goals as goal

pub loop-step-preserved : goal.loop-step-preserved
loop-step-preserved g c = scripted_more g.G.Game.next _ _ _ c.args.script.now c.loop-step.step-index c.step-item.result (omega arith) c.step-item.is c.follow.ensures.states c.loop-step.invariant

pub returns : goal.returns
returns g c =
    scripted_all g.G.Game.next _ _ c.args.script.now c.loop-step.step-index (omega arith) c.loop-step.invariant
    ∙ ap (λ ss. scripted g.G.Game.next ss c.args.script.now) c.open-keeper.ensures

use Rattle.std.proofs.Common.{◌≡◌, drop}
use Rattle.worked_cases.specs.Scripts.{scripted}
use Rattle.worked_cases.proofs.keeper_scripts.play_script.Given as goal

-- what is left of the script, from here, gives what all of it gives from the start
abbrev pub invariant-loop-step : goal.invariant-loop-step
invariant-loop-step g l =
    scripted g.G.Game.next (g.K.Keeper.kept l.keeper).states (drop l.step-index l.script)
    ≡ scripted g.G.Game.next (g.K.Keeper.kept l.initial.keeper).states l.script

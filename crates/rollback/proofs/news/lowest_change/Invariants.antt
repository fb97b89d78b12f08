use Rattle.std.proofs.Common.{◌≡◌, ◌-◌, ◌≤◌, max}
use Rattle.plain.specs.States.{first_difference}
use Rattle.rollback.specs.Inputs.{setting, other_at, caught_up, lowest_change}
use Rattle.rollback.specs.Meanings.{inputs_of, codes_in}
use Rattle.rollback.proofs.news.lowest_change.Given as goal

-- what is left of the search from here is the whole search
abbrev pub invariant-loop-frame : goal.invariant-loop-frame
invariant-loop-frame g l =
    let s = setting g.G.Game.next g.G.Input.InputKind.idle g.G.Input.InputKind.reads g.G.Input.InputKind.code g.H.GuessRule.guessed in
    let q = inputs_of l.inputs in
    let fresh = caught_up s q (codes_in l.datagram) l.datagram.start in
    (l.frame ≤ max l.known l.played) × (first_difference (λ f. s.code (other_at s q f)) (λ f. s.code (other_at s fresh f)) l.frame (l.played - l.frame) ≡ lowest_change s q fresh)

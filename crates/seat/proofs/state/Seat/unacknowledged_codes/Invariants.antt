use Rattle.std.proofs.Common.{◌≡◌, ◌-◌, map}
use Rattle.std.specs.List.{range_with_len}
use Rattle.rollback.specs.Inputs.{setting, input_at}
use Rattle.seat.proofs.state.Seat.unacknowledged_codes.Given as goal

abbrev pub invariant-loop-frame : goal.invariant-loop-frame
invariant-loop-frame g l =
    let s = setting g.G.Game.next g.G.Input.InputKind.idle g.G.Input.InputKind.reads g.G.Input.InputKind.code g.H.GuessRule.guessed in
    l.codes ≡ map (λ f. s.code (input_at s l.own l.self.own.next f)) (range_with_len l.self.acknowledged (l.frame - l.self.acknowledged))

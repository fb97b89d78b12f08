use Rattle.std.specs.Prelude.{is_ok}
use Rattle.std.proofs.Common.{◌≡◌, ◌-◌, map, sym, ap, ◌∙◌, arith}
use Rattle.std.specs.List.{range_with_len}
use Rattle.rollback.specs.Inputs.{setting, input_at}
use Rattle.seat.proofs.Codes.{code_more}
use Rattle.seat.proofs.state.Seat.unacknowledged_codes.Goals as goal

pub loop-frame-init : goal.loop-frame-init
loop-frame-init g c =
    let s = setting g.G.Game.next g.G.Input.InputKind.idle g.G.Input.InputKind.reads g.G.Input.InputKind.code g.H.GuessRule.guessed in
    let a = c.args.self.now.acknowledged in
    let none : a - a ≡ 0 = omega arith in
    c.new-codes.ensures ∙ sym (ap (λ n. map (λ f. s.code (input_at s c.args.own.now c.args.self.now.own.next f)) (range_with_len a n)) none)

pub loop-frame-preserved : goal.loop-frame-preserved
loop-frame-preserved g c =
    let s = setting g.G.Game.next g.G.Input.InputKind.idle g.G.Input.InputKind.reads g.G.Input.InputKind.code g.H.GuessRule.guessed in
    let few = c.args.self.now.unacknowledged in
    code_more (λ f. s.code (input_at s c.args.own.now c.args.self.now.own.next f)) c.args.self.now.acknowledged c.loop-frame.frame c.code.result _ _ (is_ok c.push.result)
    c.loop-frame.auto.frame (omega arith) (c.code.ensures ∙ ap s.code c.input_at.ensures) c.loop-frame.invariant c.push.ensures.answer c.push.ensures.codes

pub returns : goal.returns
returns g c =
    let s = setting g.G.Game.next g.G.Input.InputKind.idle g.G.Input.InputKind.reads g.G.Input.InputKind.code g.H.GuessRule.guessed in
    let within = c.args.self.now.acknowledged_within in
    let end : c.loop-frame.frame ≡ c.args.self.now.own.next = omega arith in
    c.loop-frame.invariant ∙ ap (λ k. map (λ f. s.code (input_at s c.args.own.now c.args.self.now.own.next f)) (range_with_len c.args.self.now.acknowledged (k - c.args.self.now.acknowledged))) end

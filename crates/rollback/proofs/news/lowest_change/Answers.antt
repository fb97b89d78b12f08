use Rattle.std.proofs.Common.{◌≡◌, ◌-◌, sym, ap, ◌∙◌, arith}
use Rattle.plain.specs.States.{first_difference}
use Rattle.rollback.specs.Inputs.{setting, other_at, caught_up, lowest_change}
use Rattle.rollback.specs.Meanings.{inputs_of, codes_in}
use Rattle.rollback.proofs.Search.{search_stop, search_more, search_end}
use Rattle.rollback.proofs.news.lowest_change.Goals as goal

pub loop-frame-init : goal.loop-frame-init
loop-frame-init g c =
    let s = setting g.G.Game.next g.G.Input.InputKind.idle g.G.Input.InputKind.reads g.G.Input.InputKind.code g.H.GuessRule.guessed in
    let q = inputs_of c.args.inputs.now in
    let fresh = caught_up s q (codes_in c.args.datagram.now) c.args.datagram.now.start in
    let known = c.next-known.ensures in
    let played = c.next-played.ensures in
    (omega arith, λ i. first_difference (λ f. s.code (other_at s q f)) (λ f. s.code (other_at s fresh f)) (known i) (played i - known i))

pub fresh_at-requires : goal.fresh_at-requires
fresh_at-requires g c = record { whole = c.requires.whole; few = c.requires.few; start = c.requires.start; new = omega arith; top = omega arith }

pub other_at-requires : goal.other_at-requires
other_at-requires g c = omega arith

pub returns-then-code : goal.returns-then-code
returns-then-code g c =
    let s = setting g.G.Game.next g.G.Input.InputKind.idle g.G.Input.InputKind.reads g.G.Input.InputKind.code g.H.GuessRule.guessed in
    let q = inputs_of c.args.inputs.now in
    let fresh = caught_up s q (codes_in c.args.datagram.now) c.args.datagram.now.start in
    let differ : s.code (other_at s q c.loop-frame.frame) ≡ s.code (other_at s fresh c.loop-frame.frame) → ⊥ =
    λ e. c.if-code.true (c.code.ensures ∙ ap s.code c.other_at.ensures ∙ e ∙ sym (ap s.code c.fresh_at.ensures) ∙ sym c.code-in-loop-frame.ensures) in
    search_stop (λ f. s.code (other_at s q f)) (λ f. s.code (other_at s fresh f)) c.next-played.result (lowest_change s q fresh) c.loop-frame.frame c.loop-frame-test.true differ c.loop-frame.invariant.1

pub loop-frame-preserved : goal.loop-frame-preserved
loop-frame-preserved g c =
    let s = setting g.G.Game.next g.G.Input.InputKind.idle g.G.Input.InputKind.reads g.G.Input.InputKind.code g.H.GuessRule.guessed in
    let q = inputs_of c.args.inputs.now in
    let fresh = caught_up s q (codes_in c.args.datagram.now) c.args.datagram.now.start in
    let same : s.code (other_at s q c.loop-frame.frame) ≡ s.code (other_at s fresh c.loop-frame.frame) =
    sym (c.code.ensures ∙ ap s.code c.other_at.ensures) ∙ c.if-code.false ∙ c.code-in-loop-frame.ensures ∙ ap s.code c.fresh_at.ensures in
    (omega arith, search_more (λ f. s.code (other_at s q f)) (λ f. s.code (other_at s fresh f)) c.next-played.result (lowest_change s q fresh) c.loop-frame.frame c.loop-frame-test.true same c.loop-frame.invariant.1)

pub returns : goal.returns
returns g c =
    let s = setting g.G.Game.next g.G.Input.InputKind.idle g.G.Input.InputKind.reads g.G.Input.InputKind.code g.H.GuessRule.guessed in
    let q = inputs_of c.args.inputs.now in
    let fresh = caught_up s q (codes_in c.args.datagram.now) c.args.datagram.now.start in
    let top = c.loop-frame.invariant.0 in
    let here : c.max.result ≡ c.loop-frame.frame = omega arith in
    here ∙ search_end (λ f. s.code (other_at s q f)) (λ f. s.code (other_at s fresh f)) c.next-played.result (lowest_change s q fresh) c.loop-frame.frame c.loop-frame-test.false c.loop-frame.invariant.1

use Rattle.std.proofs.Common.{◌+◌, ◌-◌, sym, ap, ◌∙◌, arith}
use Rattle.rollback.specs.Inputs.{setting, sent_at, other_at}
use Rattle.rollback.specs.Meanings.{inputs_of, codes_in}
use Rattle.rollback.proofs.Fresh.{fresh_sent, fresh_guess, fresh_same}
use Rattle.rollback.proofs.news.fresh_at.Goals as goal

pub returns-then-frame-end : goal.returns-then-frame-end
returns-then-frame-end g c =
    let s = setting g.G.Game.next g.G.Input.InputKind.idle g.G.Input.InputKind.reads g.G.Input.InputKind.code g.H.GuessRule.guessed in
    let d = c.args.datagram.now in
    c.sent_at.ensures ∙ sym (fresh_sent s (inputs_of c.args.inputs.now) (codes_in d) d.start c.requires.whole c.requires.few c.requires.start c.args.frame c.requires.new (omega arith))

pub returns-then-next-end : goal.returns-then-next-end
returns-then-next-end g c =
    let s = setting g.G.Game.next g.G.Input.InputKind.idle g.G.Input.InputKind.reads g.G.Input.InputKind.code g.H.GuessRule.guessed in
    let d = c.args.datagram.now in
    c.guess.ensures
    ∙ ap (λ x. g.H.GuessRule.guessed x (c.args.frame + 1 - c.end_of-end.result)) c.sent_at-then-next-end.ensures
    ∙ ap (λ e. g.H.GuessRule.guessed (sent_at s (codes_in d) d.start (e - 1)) (c.args.frame + 1 - e)) c.end_of-end.ensures
    ∙ sym (fresh_guess s (inputs_of c.args.inputs.now) (codes_in d) d.start c.requires.whole c.requires.few c.requires.start c.args.frame (omega arith) (omega arith))

pub returns : goal.returns
returns g c =
    let s = setting g.G.Game.next g.G.Input.InputKind.idle g.G.Input.InputKind.reads g.G.Input.InputKind.code g.H.GuessRule.guessed in
    let d = c.args.datagram.now in
    c.other_at.ensures ∙ sym (ap (λ q. other_at s q c.args.frame) (fresh_same s (inputs_of c.args.inputs.now) (codes_in d) d.start c.requires.whole c.requires.few c.requires.start (omega arith)))

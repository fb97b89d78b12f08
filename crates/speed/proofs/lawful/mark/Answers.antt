use Rattle.std.proofs.Common.{◌+◌, drop, Some, sym, ap, ◌∙◌}
use Rattle.std.proofs.lemmas.List.{drop_more}
use Rattle.speed.specs.Marks.{marked}
use Rattle.speed.proofs.Sets.{marked_none}
use Rattle.speed.proofs.lawful.mark.Goals as goal

pub returns-in_err-seen : goal.returns-in_err-seen
returns-in_err-seen c =
    let rest = drop (c.loop-card.card-index + 1) c.args.cards.now in
    let none = ap (λ set. marked set rest) (sym c.add.ensures ∙ c.in_err-seen.was) ∙ marked_none rest in
    c.from_residual.ensures
    ∙ (sym none ∙ (sym (ap (marked (Some c.loop-card.seen)) (drop_more c.args.cards.now c.loop-card.card-index 0 c.loop-card-test.true)) ∙ c.loop-card.invariant))

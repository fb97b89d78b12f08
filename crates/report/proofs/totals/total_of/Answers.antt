use Rattle.std.proofs.Common.{rules, tests, ◌∙◌}
use Rattle.std.specs.Bool.{beq}
use Rattle.std.proofs.lemmas.Iterator.{YieldsList-from_slice, YieldsList-from_zip, YieldsList-from_map}
use Rattle.std.proofs.lemmas.Iterator.Consumers.{YieldsList-at, YieldsList-from_filter, sum_from_yields_List}
use Rattle.play.specs.declared.turns.Told.{Told}
use Rattle.trace.specs.declared.forms.TraceTurn.{TraceTurn}
use Rattle.report.proofs.Lists.{total_is}
use Rattle.report.proofs.totals.total_of.Goals as goal

pub returns : goal.returns
returns c =
    sum_from_yields_List c.map.result _ c.sum.ensures.ran
    (YieldsList-from_map _ (λ (p : TraceTurn × Told). p.1.frames)
    (YieldsList-at c.map.ensures.source
    (YieldsList-from_filter _ (λ (p : TraceTurn × Told). beq p.0.seat c.args.seat)
    (YieldsList-from_zip (YieldsList-from_slice c.args.turns.now cc) (YieldsList-from_slice c.args.lines.now cc))
    c.filter.ensures.closure (λ x r q k. search (rules, tests))))
    c.map.ensures.closure (λ x r q k. search (rules, tests)))
    ∙ total_is c.args.seat c.args.turns.now c.args.lines.now

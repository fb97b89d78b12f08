use Rattle.std.proofs.Common.{rules, tests, ℕ, refl}
use Rattle.std.proofs.lemmas.Iterator.{YieldsList-from_range, YieldsList-from_map, items_from_collect}
use Rattle.report.proofs.slots.idle_inputs.Goals as goal

pub returns : goal.returns
returns g c =
    items_from_collect _ c.collect.ensures.ran (YieldsList-from_map _ (λ (n : ℕ). g.I.InputKind.idle) (YieldsList-from_range 0 32 32 c.map.ensures.source refl) c.map.ensures.closure (λ x r q k. search (rules, tests)))

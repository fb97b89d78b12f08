use Rattle.std.proofs.Common.{◌∙◌, rules}
use Rattle.std.proofs.lemmas.List.{map-id}
use Rattle.std.proofs.lemmas.List.FromFn.{fill_by_all}
use Rattle.speed.specs.Opening.{new_pack}
use Rattle.speed.proofs.pack.sorted_pack.Goals as goal

pub returns : goal.returns
unfolding new_pack
returns c =
    fill_by_all (λ k. k) c.from_fn.result 52 0 c.from_fn.ensures.items.long (λ k h. let call = (c.from_fn.ensures.items.at k 0 h).2 in search rules)
    ∙ map-id _

use Rattle.std.proofs.Common.{eqb, take, Some, ap, ◌∙◌}
use Rattle.std.specs.Option.{option_eq}
use Rattle.speed.proofs.Sets.{order_is}
use Rattle.speed.proofs.lawful.is_permutation.Goals as goal

pub returns : goal.returns
returns c = c.eq.ensures ∙ (ap (λ set. option_eq eqb set (Some 4503599627370495)) c.mark.ensures ∙ order_is (take 52 c.args.words.now))

use Rattle.std.proofs.Common.{subst}
use Rattle.refine.specs.Laws.{AllSlots}
use Rattle.refine.specs.Matches.{EnoughSlots}
use Rattle.refine.proofs.Plays.{fresh_plays}
use Rattle.refine.proofs.Matches as matches
use Rattle.refine.proofs.opening_laws.Goals as goal

pub returns-clause-play : goal.returns-clause-play
returns-clause-play g c a lawful match_number x y log small hx hy = fresh_plays a lawful match_number x y log small (subst (λ n. AllSlots n x) c.requires hx) (subst (λ n. AllSlots n y) c.requires hy)

pub returns-clause-more : goal.returns-clause-more
returns-clause-more g c a lawful match_number x y log small hx hy = matches.fresh_plays a lawful match_number x y log small (subst (λ n. EnoughSlots n x) c.requires hx) (subst (λ n. EnoughSlots n y) c.requires hy)

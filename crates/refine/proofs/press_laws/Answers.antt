use Rattle.refine.proofs.Moments.{press_never_refused}
use Rattle.refine.proofs.press_laws.Goals as goal

pub returns : goal.returns
returns g c a lawful match_number ts = press_never_refused a match_number ts lawful c.args.end c.requires

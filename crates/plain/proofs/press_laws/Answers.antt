use Rattle.plain.proofs.Going.{press_goes_on}
use Rattle.plain.proofs.press_laws.Goals as goal

pub returns : goal.returns
returns g c r = press_goes_on r c.args.end c.requires

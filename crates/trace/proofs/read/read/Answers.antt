use Rattle.std.proofs.Common.{rules}
use Rattle.trace.proofs.Whole.{faithful_to}
use Rattle.trace.proofs.read.read.Goals as goal

pub returns-in_ok-turns-in-Ok-clause-laws : goal.returns-in_ok-turns-in-Ok-clause-laws
returns-in_ok-turns-in-Ok-clause-laws c = faithful_to c.args.text.now _ (search rules)

pub returns-in-Err-clause-laws : goal.returns-in-Err-clause-laws
returns-in-Err-clause-laws c = faithful_to c.args.text.now _ (search rules)

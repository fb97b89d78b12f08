use Rattle.plain.proofs.Counting.{welcome}
use Rattle.plain.proofs.Reporting.{reports_agree}
use Rattle.plain.proofs.welcome_laws.Goals as goal

pub returns : goal.returns
returns g c = record { welcome = λ r. welcome r c.args.most c.requires; reports = reports_agree }

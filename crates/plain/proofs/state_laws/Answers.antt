use Rattle.plain.proofs.Replaying.{replays, states_hold}
use Rattle.plain.proofs.state_laws.Goals as goal

pub returns : goal.returns
returns g c = record { kept = states_hold; replayed = λ r. replays r c.args.most c.requires }

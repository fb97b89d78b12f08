use Rattle.match_engine.specs.Log.{entries}
use Rattle.play.proofs.Calls.{does_as}
use Rattle.play.proofs.step.make_call.Goals as goal

pub returns-in-Press : goal.returns-in-Press
returns-in-Press g c opening rest = does_as _ _ _ _ _ _ c.in-Press.is (c.press.ensures.does opening rest (entries c.args.log.now))

pub returns-in-Send : goal.returns-in-Send
returns-in-Send g c opening rest = does_as _ _ _ _ _ _ c.in-Send.is (c.send.ensures.does opening rest)

pub returns-in-Take : goal.returns-in-Take
returns-in-Take g c opening rest = does_as _ _ _ _ _ _ c.in-Take.is (c.take.ensures.does opening rest)

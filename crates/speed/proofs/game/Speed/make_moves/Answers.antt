use Rattle.speed.proofs.Frames.{first_goes, second_goes}
use Rattle.speed.proofs.game.Speed.make_moves.Goals as goal

pub returns-then-self-eq0 : goal.returns-then-self-eq0
returns-then-self-eq0 c = first_goes c.args.self.now.words _ _ c.args.first c.args.second c.if-self-eq0.true c.make_move.ensures c.make_move-then-self-eq0.ensures

pub returns-else-self-eq0 : goal.returns-else-self-eq0
returns-else-self-eq0 c = second_goes c.args.self.now.words _ _ c.args.first c.args.second c.if-self-eq0.false c.make_move-else-self-eq0.ensures c.make_move-else-self-eq0-2.ensures

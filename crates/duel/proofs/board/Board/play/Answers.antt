use Rattle.std.proofs.Common.{◌≡◌, sym, subst}
use Rattle.duel.specs.Boards.{Within, first_moved, second_moved}
use Rattle.duel.specs.Moves.{sound_from, first_moved_in, second_moved_in}
use Rattle.duel.proofs.board.Board.play.Goals as goal
use Rattle.duel.proofs.board.Board.play.Goals.{After-moved-two}

one_is : (c : After-moved-two) → c.moved-one.result ≡ first_moved c.args.self c.args.first c.args.second
unfolding first_moved
one_is c = cc

two_is : (c : After-moved-two) → c.moved-two.result ≡ second_moved c.args.self c.args.first c.args.second
unfolding second_moved
two_is c = cc

pub fired-requires : goal.fired-requires
fired-requires c =
    subst (λ p. Within p.cell) (sym (one_is c)) (first_moved_in c.args.self (sound_from c.args.self c.requires) c.args.first c.args.second)

pub fired-requires-2 : goal.fired-requires-2
fired-requires-2 c =
    subst (λ p. Within p.cell) (sym (two_is (goal.at.fired-requires-2 c).After-moved-two)) (second_moved_in c.args.self (sound_from c.args.self c.requires) c.args.first c.args.second)

pub returns : goal.returns
returns c =
    let one = one_is (goal.at.returns c).After-moved-two in
    let two = two_is (goal.at.returns c).After-moved-two in
    cc

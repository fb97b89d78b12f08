use Rattle.std.proofs.Common.{sym, ap, ◌∙◌}
use Rattle.duel.specs.Words.{words_of, played_if, undone}
use Rattle.duel.specs.Spelling.{spelled_words, led_back}
use Rattle.duel.proofs.play.DuelGame.step.Goals as goal

pub returns : goal.returns
returns c =
    let b = c.args.self.now.board in
    let told = c.advance.ensures in
    record {
      state = ap words_of told.board ∙ sym (ap (λ o. played_if o (words_of b) c.args.first c.args.second) (spelled_words b));
      trail = ap (undone (words_of c.advance.new.self.board)) told.trail ∙ led_back b c.advance.new.self.board c.args.self.now.lawful told.frame.walls_stay;
    }

use Rattle.std.proofs.Common.{sym, ◌∙◌, arith, ltb-false, ltb-true}
use Rattle.duel.specs.Spelling.{spelled_short}
use Rattle.duel.proofs.Seats.{first_ten_spell, first_missing, second_missing, both_there}
use Rattle.duel.proofs.board.Board.from_words.Goals as goal

pub returns-in_default : goal.returns-in_default
returns-in_default c = sym (spelled_short c.args.words.now (omega (arith, ltb-true)))

pub returns-in_err-from_words : goal.returns-in_err-from_words
returns-in_err-from_words c =
    c.from_residual.ensures ∙ sym (first_ten_spell _ (omega (arith, ltb-false)) ∙ first_missing _ _ c.in_err-from_words.ensures)

pub returns-in_err-from_words-2 : goal.returns-in_err-from_words-2
returns-in_err-from_words-2 c =
    c.from_residual-in_err-from_words-2.ensures
    ∙ sym (first_ten_spell _ (omega (arith, ltb-false)) ∙ second_missing _ _ c.in_ok-from_words.ensures c.in_err-from_words-2.ensures)

pub returns : goal.returns
returns c = sym (first_ten_spell _ (omega (arith, ltb-false)) ∙ both_there _ _ c.in_ok-from_words.ensures c.in_ok-from_words-2.ensures)

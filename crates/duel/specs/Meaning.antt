-- What a value of Duel means: the words of its board.
use Rattle.interface.specs.Games.{State}
use Rattle.duel.specs.declared.state.Duel.{Duel}
use Rattle.duel.specs.Words.{words_of}

abbrev pub duel_words : Duel → State
duel_words d = words_of d.board

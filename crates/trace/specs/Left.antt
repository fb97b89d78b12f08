-- What is left of a line's words.
use Rattle.std.specs.Prelude.{List, map}
use Rattle.trace.specs.declared.words.Words.{Words}
use Rattle.trace.specs.Pieces.{space}
use Rattle.trace.specs.Tokens.{Lexeme, lexeme}
use Rattle.trace.specs.Meanings.{parts_left}

abbrev pub left : Words → List Lexeme
left w = map lexeme (parts_left space w.rest)

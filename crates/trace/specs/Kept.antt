-- A token, without what it borrows.
use Rattle.trace.specs.declared.token.Token.{Token}
use Rattle.trace.specs.declared.token.Token.TheVariants.{Word, Number}
use Rattle.trace.specs.Tokens.{Lexeme, a_word, a_number}

abbrev pub kept : Token → Lexeme
kept (Word text at) = a_word text.now at
kept (Number text at value) = a_number text.now at value

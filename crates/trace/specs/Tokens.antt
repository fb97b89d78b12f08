-- The words of a line, each with its place, and with its value where it is a number.
use Rattle.std.specs.Prelude.{ℕ, Bool, cond, List, map, Some, None, Option, nat_eq, nat_le}
use Rattle.std.specs.Option.{option_map}
use Rattle.std.specs.Str.{bytes_eq}
use Rattle.trace.specs.Pieces.{Piece, space, pieces, placed}
use Rattle.trace.specs.Numbers.{most_16, most_32, number}

pub data Lexeme : Type 0 where
  a_word : List ℕ → ℕ → Lexeme
  a_number : List ℕ → ℕ → ℕ → Lexeme

abbrev pub by_value : Piece → Option ℕ → Lexeme
by_value p None = a_word p.bytes p.at
by_value p (Some n) = a_number p.bytes p.at n

-- a number of at most 32 bits, or any other word
abbrev pub lexeme : Piece → Lexeme
lexeme p = by_value p (number most_32 p.bytes)

-- the words of a line: it is parted at every space
abbrev pub words : Piece → List Lexeme
words line = map lexeme (placed line.at (pieces space line.bytes))

abbrev pub spelling : Lexeme → List ℕ
spelling (a_word w at) = w
spelling (a_number w at n) = w

abbrev pub place : Lexeme → ℕ
place (a_word w at) = at
place (a_number w at n) = at

-- the word is this text
abbrev pub says : List ℕ → Lexeme → Bool
says w t = bytes_eq (spelling t) w

-- its number, if it is one of at most so much
abbrev pub number_in : ℕ → Lexeme → Option ℕ
number_in most (a_word w at) = None
number_in most (a_number w at n) = cond (nat_le n most) (Some n) None

-- a seat, 0 or 1; `true` for 1
abbrev pub seat_in : Lexeme → Option Bool
seat_in t = option_map (λ n. nat_eq n 1) (number_in 1 t)

-- a number of 16 bits
abbrev pub short_in : Lexeme → Option ℕ
short_in t = number_in most_16 t

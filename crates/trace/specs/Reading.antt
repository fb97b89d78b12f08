-- A whole text, line by line.
use Rattle.std.specs.Prelude.{ℕ, ◌+◌, List, [], ◌∷◌, Some, None, Ok, Err, Option}
use Rattle.interface.specs.declared.answers.Refusal.{Refusal}
use Rattle.interface.specs.declared.answers.Refusal.TheVariants.{BadFirstLine, BadLine, BadNumber, BadEnding}
use Rattle.trace.specs.declared.forms.First.{First}
use Rattle.trace.specs.declared.forms.TraceTurn.{TraceTurn}
use Rattle.trace.specs.declared.forms.Fault.{Fault}
use Rattle.trace.specs.declared.line.Mistake.TheVariants.{Misshapen, BadNumber as NoNumber}
use Rattle.trace.specs.Pieces.{Piece, line_feed, pieces, placed}
use Rattle.trace.specs.Tokens.{words}
use Rattle.trace.specs.Lines.{Verdict, verdict, first_of}

-- what lines after the first give: the turns before the first fault, and that fault
pub record Rest : Type 0 where
  pub turns : List TraceTurn
  pub fault : Option Fault

abbrev pub stopped : Refusal → ℕ → ℕ → Rest
stopped why line at = record { turns = []; fault = Some (record { why = why; line = line; at = at }) }

abbrev pub ended : Rest
ended = record { turns = []; fault = None }

abbrev pub after_turn : TraceTurn → Rest → Rest
after_turn t r = record { turns = t ∷ r.turns; fault = r.fault }

-- what is wrong with a line that lacks its line feed, or stands after `end`
abbrev pub out_of_place : Verdict → Refusal
out_of_place (Ok turn) = BadEnding
out_of_place (Err Misshapen) = BadLine
out_of_place (Err (NoNumber at)) = BadEnding

-- what follows the last line feed is nothing, or a line without one
abbrev pub tail_of : List ℕ → Rest → Rest → Rest
tail_of [] none some = none
tail_of (b ∷ bs) none some = some

-- what follows the line `end`: nothing may
abbrev pub after_end : ℕ → List Piece → Rest
after_end line [] = ended
after_end line (p ∷ []) = tail_of p.bytes ended (stopped (out_of_place (verdict p)) line p.at)
after_end line (p ∷ q ∷ ps) = stopped (out_of_place (verdict p)) line p.at

-- a line with its line feed: what it is, where it stands, what follows if it is a turn, and what if it is `end`
abbrev pub judged : Verdict → ℕ → ℕ → Rest → Rest → Rest
judged (Ok (Some t)) line at more over = after_turn t more
judged (Ok None) line at more over = over
judged (Err Misshapen) line at more over = stopped BadLine line at
judged (Err (NoNumber place)) line at more over = stopped BadNumber line place

-- the lines of a text from a line number on: the last piece is what follows the last line feed
abbrev pub read_lines : ℕ → List Piece → Rest
read_lines line [] = ended
read_lines line (p ∷ []) = tail_of p.bytes (stopped BadEnding line p.at) (stopped (out_of_place (verdict p)) line p.at)
read_lines line (p ∷ q ∷ ps) = judged (verdict p) line p.at (read_lines (line + 1) (q ∷ ps)) (after_end (line + 1) (q ∷ ps))

pub record Reading : Type 0 where
  pub first : Option First
  -- turn i stands on line i + 2
  pub turns : List TraceTurn
  pub fault : Option Fault

abbrev pub no_first : Reading
no_first = record { first = None; turns = []; fault = Some (record { why = BadFirstLine; line = 1; at = 0 }) }

abbrev pub reading : Option First → Rest → Reading
reading None r = no_first
reading (Some f) r = record { first = Some f; turns = r.turns; fault = r.fault }

-- the first piece has its line feed if another follows
abbrev pub read_pieces : List Piece → Reading
read_pieces [] = no_first
read_pieces (p ∷ []) = no_first
read_pieces (p ∷ q ∷ ps) = reading (first_of (words p)) (read_lines 2 (q ∷ ps))

abbrev pub read_text : List ℕ → Reading
read_text text = read_pieces (placed 0 (pieces line_feed text))

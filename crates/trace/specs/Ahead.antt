-- What a reader has ahead of it, and what its calls answer.
use Rattle.std.specs.Prelude.{◌≡◌, ℕ, List, [], ◌∷◌, ◌++◌, map, Some, None, Ok, Err, Option, Result}
use Rattle.interface.specs.declared.answers.Refusal.{Refusal}
use Rattle.interface.specs.declared.answers.Refusal.TheVariants.{BadEnding}
use Rattle.trace.specs.declared.forms.First.{First}
use Rattle.trace.specs.declared.forms.TraceTurn.{TraceTurn}
use Rattle.trace.specs.declared.forms.Fault.{Fault}
use Rattle.trace.specs.declared.part.Part.{Part}
use Rattle.trace.specs.declared.reader.Reader.{Reader}
use Rattle.trace.specs.Pieces.{Piece, line_feed}
use Rattle.trace.specs.Lines.{verdict}
use Rattle.trace.specs.Reading.{Rest, Reading, ended, out_of_place, reading, read_lines}
use Rattle.trace.specs.Meanings.{parted}

abbrev pub lines_left : ℕ → Option Part → Rest
lines_left line None = ended
lines_left line (Some p) = read_lines line (parted line_feed p)

abbrev pub ahead : Reader → Rest
ahead r = lines_left r.line r.rest

abbrev pub last_item : Option Fault → List (Result TraceTurn Fault)
last_item None = []
last_item (Some f) = Err f ∷ []

-- what the calls of a reader answer: the turns ahead one after another, then the fault
abbrev pub items_of : Rest → List (Result TraceTurn Fault)
items_of r = map (λ t. Ok t) r.turns ++ last_item r.fault

abbrev pub items_ahead : Reader → List (Result TraceTurn Fault)
items_ahead r = items_of (ahead r)

abbrev pub tail_fault : List ℕ → Refusal → Refusal
tail_fault [] why = BadEnding
tail_fault (b ∷ bs) why = why

-- the fault of what follows the last line feed
abbrev pub unended : ℕ → Piece → Fault
unended line p = record { why = tail_fault p.bytes (out_of_place (verdict p)); line = line; at = p.at }

-- what opening says of the whole reading
abbrev pub Opened : Result (First × Reader) Fault → Reading → Type 0
Opened (Ok x) whole = whole ≡ reading (Some x.0) (ahead x.1)
Opened (Err f) whole = whole ≡ record { first = None; turns = []; fault = Some f }

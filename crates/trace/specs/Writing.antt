-- A trace as text: every line ends with a line feed.
use Rattle.std.specs.Prelude.{ℕ, Bool, true, false, List, [], ◌∷◌, ◌++◌, map, codes, decimal}
use Rattle.trace.specs.declared.forms.GameName.{GameName}
use Rattle.trace.specs.declared.forms.GameName.TheVariants.{Duel, Speed}
use Rattle.trace.specs.declared.forms.First.{First}
use Rattle.trace.specs.declared.forms.TraceTurn.{TraceTurn}
use Rattle.trace.specs.declared.forms.TraceCall.{TraceCall}
use Rattle.trace.specs.declared.forms.TraceCall.TheVariants.{Press, Send, Take}
use Rattle.trace.specs.Pieces.{line_feed, space, joined_by}

abbrev pub game_word : GameName → List ℕ
game_word Duel = codes "duel"
game_word Speed = codes "speed"

abbrev pub seat_word : Bool → List ℕ
seat_word false = codes "0"
seat_word true = codes "1"

abbrev pub first_words : First → List (List ℕ)
first_words f = codes "RBT" ∷ codes "1" ∷ game_word f.game ∷ decimal f.match_number ∷ decimal f.seed ∷ []

abbrev pub call_words : List ℕ → TraceCall → List (List ℕ)
call_words s (Press n) = codes "press" ∷ s ∷ decimal n ∷ []
call_words s Send = codes "send" ∷ s ∷ []
call_words s (Take n) = codes "take" ∷ s ∷ decimal n ∷ []

abbrev pub turn_words : TraceTurn → List (List ℕ)
turn_words t = call_words (seat_word t.seat) t.call

-- a line: its words with a space between them
abbrev pub line_of : List (List ℕ) → List ℕ
line_of ws = joined_by space ws

abbrev pub lines_of : First → List TraceTurn → List (List ℕ)
lines_of f ts = line_of (first_words f) ∷ map (λ t. line_of (turn_words t)) ts ++ codes "end" ∷ []

-- lines, each with its line feed
abbrev pub ended_lines : List (List ℕ) → List ℕ
ended_lines [] = []
ended_lines (l ∷ ls) = l ++ line_feed ∷ ended_lines ls

abbrev pub text_of : First → List TraceTurn → List ℕ
text_of f ts = ended_lines (lines_of f ts)

-- What ties reading to writing, and where a fault lies.
use Rattle.std.specs.Prelude.{◌≡◌, ℕ, ◌+◌, ◌-◌, ◌^◌, ◌<◌, ◌≤◌, cond, ◌⊎◌, List, [], ◌∷◌, ◌++◌, length, take, Some, None, codes, Option, ◌==◌, ◌≢◌, slice_index_or}
use Rattle.std.specs.List.{All}
use Rattle.interface.specs.declared.answers.Refusal.TheVariants.{BadNumber}
use Rattle.trace.specs.declared.forms.First.{First}
use Rattle.trace.specs.declared.forms.TraceTurn.{TraceTurn}
use Rattle.trace.specs.declared.forms.TraceCall.{TraceCall}
use Rattle.trace.specs.declared.forms.TraceCall.TheVariants.{Press, Send, Take}
use Rattle.trace.specs.declared.forms.Fault.{Fault}
use Rattle.trace.specs.Pieces.{line_feed, pieces}
use Rattle.trace.specs.Reading.{Reading, read_text}
use Rattle.trace.specs.Writing.{ended_lines, text_of}

-- each number fits its bits
abbrev pub CallFits : TraceCall → Type 0
CallFits (Press n) = n < 2 ^ 16
CallFits Send = Unit {0}
CallFits (Take n) = n < 2 ^ 16

abbrev pub TurnFits : TraceTurn → Type 0
TurnFits t = CallFits t.call

pub record FirstFits (f : First) : Type 0 where
  pub match_number : f.match_number < 2 ^ 16
  pub seed : f.seed < 2 ^ 32

-- a first line and turns, and no fault
abbrev pub says_all : Option First → List TraceTurn → Reading
says_all f ts = record { first = f; turns = ts; fault = None }

-- the lines of a text; the last is what follows the last line feed
abbrev pub lines : List ℕ → List (List ℕ)
lines text = pieces line_feed text

-- how many line feeds a text has
abbrev pub line_feeds : List ℕ → ℕ
line_feeds [] = 0
line_feeds (b ∷ bs) = cond (b == line_feed) (line_feeds bs + 1) (line_feeds bs)

-- the first n lines, each with its line feed
abbrev pub front : ℕ → List ℕ → List ℕ
front n text = ended_lines (take n (lines text))

abbrev pub end_line : List ℕ
end_line = ended_lines (codes "end" ∷ [])

-- where a fault lies: in the line that it names, at its start but for a bad number
pub record Lies (text : List ℕ) (x : Fault) : Type 0 where
  pub counted : 1 ≤ x.line
  pub in_the_text : x.line ≤ line_feeds text + 1
  pub after_the_start : length (front (x.line - 1) text) ≤ x.at
  pub before_the_end : x.at ≤ length (front (x.line - 1) text) + length (slice_index_or (lines text) (x.line - 1) [])
  pub byte_in_the_text : x.at ≤ length text
  pub at_the_start : (x.why ≢ BadNumber) → x.at ≡ length (front (x.line - 1) text)

-- of a text and what was read of it
pub record Faithful (text : List ℕ) (r : Reading) : Type 0 where
  -- what was written from a first line and turns reads back to them
  pub returned : (f : First) (ts : List TraceTurn) → FirstFits f → All TurnFits ts → text ≡ text_of f ts → r ≡ says_all (Some f) ts
  -- a text without fault is exactly what writing gives
  pub exact : (f : First) → r.first ≡ Some f → r.fault ≡ None → text ≡ text_of f r.turns
  -- there is a first line, or a fault
  pub first_or_fault : r.fault ≡ None → (f : First) × (r.first ≡ Some f)
  pub fits : All TurnFits r.turns
  pub first_fits : (f : First) → r.first ≡ Some f → FirstFits f
  pub lies : (x : Fault) → r.fault ≡ Some x → Lies text x
  -- the lines before the fault have none: they read, with an `end` after them or ending with one, to the very turns
  pub stands : (x : Fault) (f : First) → r.fault ≡ Some x → r.first ≡ Some f → (read_text (front (x.line - 1) text) ≡ says_all (Some f) r.turns) ⊎ (read_text (front (x.line - 1) text ++ end_line) ≡ says_all (Some f) r.turns)

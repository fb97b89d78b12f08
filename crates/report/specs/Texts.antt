-- A report as text.
use Rattle.std.specs.Prelude.{ℕ, ◌+◌, List, [], ◌∷◌, ◌++◌, Some, None, codes, decimal, Option}
use Rattle.interface.specs.Answers.{number_of}
use Rattle.refine.specs.Plays.{Told}
use Rattle.trace.specs.Pieces.{line_feed}
use Rattle.trace.specs.Writing.{first_words, line_of}
use Rattle.trace.specs.declared.forms.First.{First}
use Rattle.trace.specs.declared.forms.Fault.{Fault}
use Rattle.report.specs.declared.ends.SeatEnd.{SeatEnd}
use Rattle.report.specs.declared.reports.SeatLine.{SeatLine}
use Rattle.report.specs.Reports.{Reported}

-- words with a space between them, and a line feed
abbrev pub line : List (List ℕ) → List ℕ
line ws = line_of ws ++ line_feed ∷ []

abbrev pub first_text : Option First → List ℕ
first_text None = []
first_text (Some first) = line (first_words first)

-- line number, code, frames replayed, P and R
abbrev pub turn_text : ℕ → Told → List ℕ
turn_text n y = line (decimal n ∷ decimal y.code ∷ decimal y.frames ∷ decimal y.played ∷ decimal y.known ∷ [])

abbrev pub turn_texts : ℕ → List Told → List ℕ
turn_texts n [] = []
turn_texts n (y ∷ ys) = turn_text n y ++ turn_texts (n + 1) ys

-- a seat's P, R, A and C, and its newest digest
abbrev pub end_text : SeatEnd → List ℕ
end_text x = line_of (decimal x.played ∷ decimal x.known ∷ decimal x.acknowledged ∷ decimal x.confirmed ∷ decimal x.digest ∷ [])

-- the same, and the frames replayed in all
abbrev pub line_text : SeatLine → List ℕ
line_text x = line_of (end_text x.end ∷ decimal x.replayed ∷ [])

-- a seat's number, P, R, A, C, the newest digest, and the frames replayed in all
abbrev pub seat_text : ℕ → SeatLine → List ℕ
seat_text s x = line (codes "seat" ∷ decimal s ∷ decimal x.end.played ∷ decimal x.end.known ∷ decimal x.end.acknowledged ∷ decimal x.end.confirmed ∷ decimal x.end.digest ∷ decimal x.replayed ∷ [])

abbrev pub fault_text : Fault → List ℕ
fault_text f = line (codes "fault" ∷ decimal (number_of f.why) ∷ codes "line" ∷ decimal f.line ∷ codes "byte" ∷ decimal f.at ∷ [])

abbrev pub seats_text : Option (SeatLine × SeatLine) → List ℕ
seats_text None = []
seats_text (Some x) = seat_text 0 x.0 ++ seat_text 1 x.1

-- the fault, or both seats
abbrev pub ending_text : Option Fault → Option (SeatLine × SeatLine) → List ℕ
ending_text (Some f) seats = fault_text f
ending_text None seats = seats_text seats

-- the turns stand from line 2 on
abbrev pub report_text : Reported → List ℕ
report_text x = (first_text x.first ++ turn_texts 2 x.lines) ++ ending_text x.fault x.seats

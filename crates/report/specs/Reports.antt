-- The report on a trace, by its text and the number of records.
use Rattle.std.specs.Prelude.{ℕ, Bool, true, false, List, [], map, Some, None, vec_items, Option}
use Rattle.refine.specs.Memory.{Entry}
use Rattle.refine.specs.Plays.{Told}
use Rattle.play.specs.Turns.{told_of}
use Rattle.trace.specs.Reading.{Reading, read_text}
use Rattle.trace.specs.declared.forms.First.{First}
use Rattle.trace.specs.declared.forms.Fault.{Fault}
use Rattle.trace.specs.declared.forms.TraceTurn.{TraceTurn}
use Rattle.report.specs.declared.ends.SeatEnd.{SeatEnd}
use Rattle.report.specs.declared.reports.SeatLine.{SeatLine}
use Rattle.report.specs.declared.reports.Report.{Report}
use Rattle.report.specs.Games.{tale_by, log_by}
use Rattle.report.specs.Replays.{Tale}
use Rattle.report.specs.Totals.{total}

pub record Reported : Type 0 where
  pub first : Option First
  -- line i + 2
  pub lines : List Told
  pub fault : Option Fault
  pub seats : Option (SeatLine × SeatLine)

abbrev pub reported : Report → Reported
reported x = record { first = x.first; lines = map told_of (vec_items x.lines); fault = x.fault; seats = x.seats }

-- a seat's line: how it ends, and the frames replayed in all of its turns
abbrev pub seat_line : SeatEnd → Bool → List TraceTurn → List Told → SeatLine
seat_line end s ts lines = record { end = end; replayed = total s ts (map (λ (y : Told). y.frames) lines) }

abbrev pub seat_lines : List TraceTurn → Tale → SeatLine × SeatLine
seat_lines ts x = (seat_line x.first false ts x.lines, seat_line x.second true ts x.lines)

-- the seats are told where there is no fault
abbrev pub unless_fault : Option Fault → SeatLine × SeatLine → Option (SeatLine × SeatLine)
unless_fault None seats = Some seats
unless_fault (Some f) seats = None

abbrev pub told_by : First → List TraceTurn → Option Fault → Tale → Reported
told_by first ts fault x = record { first = Some first; lines = x.lines; fault = fault; seats = unless_fault fault (seat_lines ts x) }

-- the first line, what every turn before the fault tells, and the fault, or the seats at the end; nothing but the fault where the first line has it
abbrev pub by_first : ℕ → Option First → List TraceTurn → Option Fault → Reported
by_first records None ts fault = record { first = None; lines = []; fault = fault; seats = None }
by_first records (Some first) ts fault = told_by first ts fault (tale_by first.game first.seed records ts)

abbrev pub report_by : ℕ → Reading → Reported
report_by records x = by_first records x.first x.turns x.fault

-- the report on a text, with a log of so many records
abbrev pub report_on : List ℕ → ℕ → Reported
report_on text records = report_by records (read_text text)

-- the log that it leaves
abbrev pub log_first : Option First → List Entry → List TraceTurn → List Entry
log_first None log ts = log
log_first (Some first) log ts = log_by first.game first.seed first.match_number log ts

abbrev pub log_on : List ℕ → List Entry → List Entry
log_on text log = log_first (read_text text).first log (read_text text).turns

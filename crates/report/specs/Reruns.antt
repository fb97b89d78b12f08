-- What a list of turns made again gives, by the plain match.
use Rattle.std.specs.Prelude.{◌≡◌, ℕ, min, true, false, List}
use Rattle.interface.specs.Games.{State}
use Rattle.interface.specs.Limits.{queue_slots}
use Rattle.plain.specs.Rules.{Rules}
use Rattle.plain.specs.Match.{Move, Press, Send, Take, turn, fresh, run}
use Rattle.plain.specs.Match as plain
use Rattle.refine.specs.Setup.{Setup}
use Rattle.refine.specs.Memory.{Entry, SlotLists}
use Rattle.refine.specs.Laws.{opened}
use Rattle.refine.specs.Matches.{through, plain_tale}
use Rattle.refine.specs.Plays as plays
use Rattle.play.specs.declared.turns.Call.{Call}
use Rattle.play.specs.declared.turns.Call.TheVariants as calls
use Rattle.play.specs.declared.turns.Turn.{Turn}
use Rattle.play.specs.Turns.{steps_of}
use Rattle.report.specs.declared.ends.SeatEnd.{SeatEnd}
use Rattle.report.specs.Ends.{plain_end}

abbrev pub move_in : ℕ → Call → Move
move_in records (calls.Press code) = Press code
move_in records calls.Send = Send records
move_in records (calls.Take k) = Take k records

-- a turn as the plain match is fed it, where 32 slots of each kind and so many records are there to be lent
abbrev pub turn_in : ℕ → Turn → plain.Turn
turn_in records t = turn t.seat (record { own_slots = min t.own queue_slots; other_slots = min t.other queue_slots; digest_slots = min t.digests queue_slots }) (move_in (min t.records records) t.call)

-- the turns ts: each is told as the plain match tells it, and the seats end as the plain match's
pub record Reran {I : Type 0} (r : Rules State I) (ts : List plain.Turn) (told : List plays.Told) (ends : SeatEnd × SeatEnd) : Type 0 where
  pub tells : told ≡ plain_tale r fresh ts
  pub first : ends.0 ≡ plain_end r (run r ts) false
  pub second : ends.1 ≡ plain_end r (run r ts) true

-- the log that they leave, from the slots of both seats and the log brought
abbrev pub log_after : {I : Type 0} → Setup I → ℕ → SlotLists I → SlotLists I → List Entry → List Turn → List Entry
log_after a match_number x y log ts = (through a (opened a.opening match_number x y log) (steps_of ts)).log

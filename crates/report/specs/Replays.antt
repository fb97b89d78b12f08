-- The replay of a match: what it tells, by the plain match, and the log that it leaves.
use Rattle.std.specs.Prelude.{ℕ, true, false, List, map, length, replicate, vec_items}
use Rattle.interface.specs.Games.{State}
use Rattle.interface.specs.Limits.{queue_slots}
use Rattle.plain.specs.Rules.{Rules}
use Rattle.plain.specs.Match.{fresh, run}
use Rattle.refine.specs.Setup.{Setup}
use Rattle.refine.specs.Memory.{Entry, SlotLists, slot_lists}
use Rattle.refine.specs.Plays.{Told}
use Rattle.refine.specs.Matches.{plain_tale}
use Rattle.play.specs.Turns.{told_of}
use Rattle.trace.specs.declared.forms.TraceTurn.{TraceTurn}
use Rattle.report.specs.declared.ends.SeatEnd.{SeatEnd}
use Rattle.report.specs.declared.ends.Replayed.{Replayed}
use Rattle.report.specs.Ends.{plain_end}
use Rattle.report.specs.Reruns.{log_after}
use Rattle.report.specs.Turns.{lent_turn, plain_turn}

-- what is told of each turn, and how both seats end
pub record Tale : Type 0 where
  pub lines : List Told
  pub first : SeatEnd
  pub second : SeatEnd

abbrev pub tale_of : Replayed → Tale
tale_of x = record { lines = map told_of (vec_items x.lines); first = x.first; second = x.second }

-- the turns of a trace made of the plain match, with so many records
abbrev pub replayed : {I : Type 0} → Rules State I → ℕ → List TraceTurn → Tale
replayed r records ts =
    let us = map (plain_turn records) ts in
    record { lines = plain_tale r fresh us; first = plain_end r (run r us) false; second = plain_end r (run r us) true }

-- the log that they leave, from slots with nothing in them
abbrev pub empty_slots : {I : Type 0} → I → SlotLists I
empty_slots idle = slot_lists (replicate queue_slots idle) (replicate queue_slots idle) (replicate queue_slots 0)

abbrev pub log_left : {I : Type 0} → Setup I → ℕ → List Entry → List TraceTurn → List Entry
log_left a match_number log ts = log_after a match_number (empty_slots a.idle) (empty_slots a.idle) log (map (lent_turn (length log)) ts)

-- The turns of a trace, as a match is made them and as the plain match is fed them.
use Rattle.std.specs.Prelude.{ℕ}
use Rattle.interface.specs.Limits.{queue_slots}
use Rattle.plain.specs.Match.{Move, turn, seat_number}
use Rattle.plain.specs.Match as plain
use Rattle.refine.specs.Memory.{own_lent}
use Rattle.play.specs.declared.turns.Call.{Call}
use Rattle.play.specs.declared.turns.Call.TheVariants as calls
use Rattle.play.specs.declared.turns.Turn.{Turn}
use Rattle.trace.specs.declared.forms.TraceCall.{TraceCall}
use Rattle.trace.specs.declared.forms.TraceCall.TheVariants.{Press, Send, Take}
use Rattle.trace.specs.declared.forms.TraceTurn.{TraceTurn}

abbrev pub call_in : TraceCall → Call
call_in (Press code) = calls.Press code
call_in Send = calls.Send
call_in (Take k) = calls.Take k

-- with its seat's 32 slots of each kind, and so many records
abbrev pub lent_turn : ℕ → TraceTurn → Turn
lent_turn records t = record { seat = seat_number t.seat; call = call_in t.call; own = queue_slots; other = queue_slots; digests = queue_slots; records = records }

abbrev pub plain_move : ℕ → TraceCall → Move
plain_move records (Press code) = plain.Press code
plain_move records Send = plain.Send records
plain_move records (Take k) = plain.Take k records

-- the same, of the plain match
abbrev pub plain_turn : ℕ → TraceTurn → plain.Turn
plain_turn records t = turn (seat_number t.seat) own_lent (plain_move records t.call)

-- What the records of src/log.rt mean.
use Rattle.std.specs.Prelude.{Bool, List, map}
use Rattle.plain.specs.Match.{unless_refused}
use Rattle.rollback.specs.Inputs.{Setting}
use Rattle.seat.specs.Views.{View}
use Rattle.seat.specs.Calls.{send_refusal, send_answer, send_leaves}
use Rattle.refine.specs.Memory.{Entry}
use Rattle.match_engine.specs.declared.log.Record.{Record}

abbrev pub entry_of : Record → Entry
entry_of r = record { sender = r.sender; size = r.len; bytes = r.bytes }

abbrev pub entries : List Record → List Entry
entries log = map entry_of log

-- a record once seat s has written its datagram into it; or as it was, where the seat does not send
abbrev pub sent_entry : {I : Type 0} → Setting I → View I → Bool → Entry → Entry
sent_entry g v s e = unless_refused (send_refusal g v e.bytes) e (record { sender = s; size = (send_answer g v e.bytes).1; bytes = send_leaves g v e.bytes })

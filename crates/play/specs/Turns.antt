-- What the types of src/turns.rt mean.
use Rattle.std.specs.Prelude.{List, map}
use Rattle.refine.specs.Outcomes.{Pressing, Sending, Taking}
use Rattle.refine.specs.Outcomes as outcomes
use Rattle.refine.specs.Plays.{Step}
use Rattle.refine.specs.Plays as plays
use Rattle.play.specs.declared.turns.Call.{Call}
use Rattle.play.specs.declared.turns.Call.TheVariants.{Press, Send, Take}
use Rattle.play.specs.declared.turns.Turn.{Turn}
use Rattle.play.specs.declared.turns.Told.{Told}

abbrev pub call_of : Call → outcomes.Call
call_of (Press code) = Pressing code
call_of Send = Sending
call_of (Take k) = Taking k

abbrev pub step_of : Turn → Step
step_of t = record { number = t.seat; call = call_of t.call; slots = record { own_slots = t.own; other_slots = t.other; digest_slots = t.digests }; records = t.records }

abbrev pub steps_of : List Turn → List Step
steps_of ts = map step_of ts

abbrev pub told_of : Told → plays.Told
told_of t = record { code = t.code; frames = t.frames; played = t.played; known = t.known }

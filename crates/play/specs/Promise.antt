-- When a whole list of turns is refused, and what it leaves.
use Rattle.std.specs.Prelude.{◌≡◌, Bool, cond, not, ◌&&◌, List, map, length, take, drop, Some, None, Option, nat_le, nat_lt}
use Rattle.interface.specs.Limits.{queue_slots}
use Rattle.interface.specs.declared.answers.Refusal.{Refusal}
use Rattle.interface.specs.declared.answers.Refusal.TheVariants.{BadFrame, BufferTooShort}
use Rattle.refine.specs.Setup.{Setup}
use Rattle.refine.specs.Memory.{SlotLists, Memory}
use Rattle.refine.specs.Matches.{through, tale}
use Rattle.play.specs.declared.turns.Turn.{Turn}
use Rattle.play.specs.declared.turns.Told.{Told}
use Rattle.play.specs.Turns.{steps_of, told_of}

-- a seat's 32 slots of each kind, or more
abbrev pub enough_slots : {I : Type 0} → SlotLists I → Bool
enough_slots x = nat_le queue_slots (length x.own) && nat_le queue_slots (length x.others) && nat_le queue_slots (length x.digests)

-- for the slots of either seat, else for want of room to tell of each turn
abbrev pub play_refusal : {I : Type 0} → SlotLists I → SlotLists I → List Turn → List Told → Option Refusal
play_refusal x y ts told =
    cond (not (enough_slots x && enough_slots y)) (Some BadFrame)
    (cond (nat_lt (length told) (length ts)) (Some BufferTooShort)
    None)

-- the turns made of the match m leave m', and tell of each in its place
pub record Played {I : Type 0} (a : Setup I) (m m' : Memory I) (ts : List Turn) (before after : List Told) : Type 0 where
  pub leaves : m' ≡ through a m (steps_of ts)
  pub tells : map told_of (take (length ts) after) ≡ tale a m (steps_of ts)
  pub later : drop (length ts) after ≡ drop (length ts) before

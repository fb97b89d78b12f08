-- What a frame queue means: the next frame's number, and the values of the 32 frames before it, or of all.
use Rattle.std.specs.Prelude.{ℕ, ◌+◌, ◌%◌, max, Bool, cond, ◌&&◌, ◌||◌, List, length, Some, None, Ok, Err, Option, Result, ◌==◌, nat_le, nat_lt, slice_set}
use Rattle.std.specs.List.{slice_get}
use Rattle.interface.specs.Limits.{queue_slots, top_frame}
use Rattle.interface.specs.declared.answers.Refusal.{Refusal}
use Rattle.interface.specs.declared.answers.Refusal.TheVariants.{BadFrame}

-- one of the 32 frames before the next
abbrev pub in_reach : ℕ → ℕ → Bool
in_reach next frame = nat_lt frame next && nat_le next (frame + queue_slots)

-- the slot of a frame
abbrev pub slot_of : ℕ → ℕ
slot_of frame = frame % queue_slots

-- as many slots as a queue has
abbrev pub whole : {T : Type 0} → List T → Bool
whole slots = length slots == queue_slots

-- the value of a frame, or nothing where it is not held
abbrev pub held : {T : Type 0} → List T → ℕ → ℕ → Option T
held slots next frame = cond (whole slots && in_reach next frame) (slice_get slots (slot_of frame)) None

-- a frame may be put where it is held or next, and at most 65,535
abbrev pub may_put : {T : Type 0} → List T → ℕ → ℕ → Bool
may_put slots next frame = whole slots && ((in_reach next frame || frame == next) && nat_le frame top_frame)

abbrev pub put_answer : Bool → Result (Unit {0}) Refusal
put_answer may = cond may (Ok tt) (Err BadFrame)

-- the next frame's number after a put
abbrev pub next_after : Bool → ℕ → ℕ → ℕ
next_after may next frame = cond may (max next (frame + 1)) next

-- the slots after a put
abbrev pub slots_after : {T : Type 0} → Bool → List T → ℕ → T → List T
slots_after may slots frame value = cond may (slice_set slots (slot_of frame) value) slots

-- what a frame reads after a put: the new value, or what it read before, if it is still held
abbrev pub read_after : {T : Type 0} → (ℕ → Option T) → ℕ → ℕ → T → ℕ → Option T
read_after before next frame value f = cond (in_reach next f) (cond (f == frame) (Some value) (before f)) None

-- What a match answers to a call, and what the call leaves.
use Rattle.std.specs.Prelude.{ℕ, ◌+◌, Bool, cond, not, length, Some, None, Option, ◌==◌, nat_le, nat_lt, slice_set}
use Rattle.std.specs.Bool.{beq}
use Rattle.interface.specs.declared.answers.Refusal.{Refusal}
use Rattle.interface.specs.declared.answers.Refusal.TheVariants.{NoSuchDatagram, LogFull, BadFrame, NoSuchSeat}
use Rattle.plain.specs.Match.{Lent, Move, Press, Send, Take, Turn, turn, answered, unless_refused}
use Rattle.seat.specs.Views.{View, rightly_lent}
use Rattle.seat.specs.Calls.{press_answer, press_leaves, send_refusal, send_answer, send_leaves, take_answer, take_leaves}
use Rattle.refine.specs.Setup.{Setup, setting_of}
use Rattle.refine.specs.Memory.{Entry, Memory, seat, put_seat, entry, datagram}

-- what a call asks for
pub data Call : Type 0 where
  -- press this code
  Pressing : ℕ → Call
  Sending : Call
  -- take the datagram with this number
  Taking : ℕ → Call

-- what a call answers and leaves
pub record Outcome (I : Type 0) : Type 0 where
  pub left : Memory I
  pub code : ℕ
  pub frames : ℕ

-- the seat that a number stands for, once it is known to be 0 or 1
abbrev pub numbered : ℕ → Bool
numbered n = n == 1

module _ {I : Type 0} where
  abbrev pub outcome : Memory I → ℕ → ℕ → Outcome I
  outcome m code frames = record { left = m; code = code; frames = frames }

  -- the match's own check of a call by seat s
  abbrev pub log_check : Memory I → Bool → Call → Option Refusal
  log_check b s (Pressing code) = None
  log_check b s Sending = cond (nat_le (length b.log) b.sent) (Some LogFull) None
  log_check b s (Taking k) =
      cond (nat_le (length b.log) k) (Some NoSuchDatagram)
      (cond (nat_le b.sent k) (Some NoSuchDatagram)
      (cond (beq (entry b k).sender s) (Some NoSuchDatagram)
      None))

  -- for its seat, else for its slots, else by the log
  abbrev pub check : Memory I → ℕ → Call → Option Refusal
  check b n c =
      cond (nat_lt 1 n) (Some NoSuchSeat)
      (cond (not (rightly_lent (seat b (numbered n)))) (Some BadFrame)
      (log_check b (numbered n) c))

module _ {I : Type 0} (a : Setup I) where
  -- the record that a seat has written its datagram into
  abbrev pub written : View I → Bool → Entry → Entry
  written v s e = let g = setting_of a s in record { sender = s; size = (send_answer g v e.bytes).1; bytes = send_leaves g v e.bytes }

  -- the log with one datagram more, or as it was where the seat does not send
  abbrev pub appended : Memory I → Bool → Memory I
  appended b s =
      let v = seat b s in
      let e = entry b b.sent in
      unless_refused (send_refusal (setting_of a s) v e.bytes) b (record { seat_0 = b.seat_0; seat_1 = b.seat_1; log = slice_set b.log b.sent (written v s e); sent = b.sent + 1 })

  -- what the seat's own call makes of it
  abbrev pub made : Memory I → Bool → Call → Outcome I
  made b s (Pressing code) = let g = setting_of a s in let v = seat b s in outcome (put_seat b s (press_leaves g v code)) (press_answer g v code) 0
  made b s Sending = outcome (appended b s) (send_answer (setting_of a s) (seat b s) (entry b b.sent).bytes).0 0
  made b s (Taking k) =
      let g = setting_of a s in
      let v = seat b s in
      let bytes = datagram (entry b k) in
      outcome (put_seat b s (take_leaves g v bytes)) (take_answer g v bytes).0 (take_answer g v bytes).1

  -- a call by the seat with number n: refused, all is as it was
  unfoldable pub result : Memory I → ℕ → Call → Outcome I
  result b n c = unless_refused (check b n c) (outcome b (answered (check b n c)) 0) (made b (numbered n) c)

-- The call as a turn of the plain match: with the numbers of slots and records lent.

module _ {I : Type 0} where
  abbrev pub lent : View I → Lent
  lent v = record { own_slots = length v.own; other_slots = length v.others; digest_slots = length v.digests }

  abbrev pub move : Memory I → Call → Move
  move b (Pressing code) = Press code
  move b Sending = Send (length b.log)
  move b (Taking k) = Take k (length b.log)

  abbrev pub as_turn : Memory I → ℕ → Call → Turn
  as_turn b n c = turn n (lent (seat b (numbered n))) (move b c)

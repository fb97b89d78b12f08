-- All that a match holds or is lent: both seats with their slots, and the log.
use Rattle.std.specs.Prelude.{ℕ, Bool, true, false, List, [], ◌++◌, take, drop, slice_index_or}
use Rattle.interface.specs.Limits.{queue_slots}
use Rattle.plain.specs.Match.{Lent}
use Rattle.seat.specs.Views.{View}

-- a record of the log
pub record Entry : Type 0 where
  -- true for seat 1
  pub sender : Bool
  -- how many of the bytes are the datagram
  pub size : ℕ
  pub bytes : List ℕ

abbrev pub no_entry : Entry
no_entry = record { sender = false; size = 0; bytes = [] }

abbrev pub datagram : Entry → List ℕ
datagram e = take e.size e.bytes

-- how many bytes a record has: as many as the longest datagram
abbrev pub record_bytes : ℕ
record_bytes = 85

-- the slots of a seat's three queues
pub record SlotLists (I : Type 0) : Type 0 where
  pub own : List I
  pub others : List I
  pub digests : List ℕ

pub record Memory (I : Type 0) : Type 0 where
  pub seat_0 : View I
  pub seat_1 : View I
  pub log : List Entry
  -- how many datagrams were sent: the first so many records have them
  pub sent : ℕ

module _ {I : Type 0} where
  abbrev pub slot_lists : List I → List I → List ℕ → SlotLists I
  slot_lists own others digests = record { own = own; others = others; digests = digests }

  abbrev pub slots_of : View I → SlotLists I
  slots_of v = record { own = v.own; others = v.others; digests = v.digests }

  -- a seat with other slots
  abbrev pub with_slots : View I → SlotLists I → View I
  with_slots v x = record { seat = v.seat; match_number = v.match_number; played = v.played; known = v.known; acknowledged = v.acknowledged; parted = v.parted; states = v.states; own = x.own; others = x.others; digests = x.digests }

  abbrev pub seat : Memory I → Bool → View I
  seat m false = m.seat_0
  seat m true = m.seat_1

  abbrev pub put_seat : Memory I → Bool → View I → Memory I
  put_seat m false v = record { seat_0 = v; seat_1 = m.seat_1; log = m.log; sent = m.sent }
  put_seat m true v = record { seat_0 = m.seat_0; seat_1 = v; log = m.log; sent = m.sent }

  -- record k of the log; past the last, an empty one
  abbrev pub entry : Memory I → ℕ → Entry
  entry m k = slice_index_or m.log k no_entry

  -- the same match with another log
  abbrev pub with_log : Memory I → List Entry → Memory I
  with_log m log = record { seat_0 = m.seat_0; seat_1 = m.seat_1; log = log; sent = m.sent }

  -- and with the records sent alone
  abbrev pub sent_part : Memory I → Memory I
  sent_part m = with_log m (take m.sent m.log)

-- Slots and records that a caller brings beyond a match's own.

-- a seat's own slots: 32 of each queue
abbrev pub own_lent : Lent
own_lent = record { own_slots = queue_slots; other_slots = queue_slots; digest_slots = queue_slots }

module _ {I : Type 0} where
  -- so many slots from the front of each queue's, or all
  abbrev pub fronts : Lent → SlotLists I → SlotLists I
  fronts l x = record { own = take l.own_slots x.own; others = take l.other_slots x.others; digests = take l.digest_slots x.digests }

  -- what was left of the fronts, y, with the slots of x that were not lent
  abbrev pub joined : Lent → SlotLists I → SlotLists I → SlotLists I
  joined l y x = record { own = y.own ++ drop l.own_slots x.own; others = y.others ++ drop l.other_slots x.others; digests = y.digests ++ drop l.digest_slots x.digests }

  -- a seat with the front of its slots
  abbrev pub cut : Lent → View I → View I
  cut l v = with_slots v (fronts l (slots_of v))

  -- a match with its own memory alone: the first 32 slots of each queue, and the records sent
  abbrev pub own_part : Memory I → Memory I
  own_part m = record { seat_0 = cut own_lent m.seat_0; seat_1 = cut own_lent m.seat_1; log = take m.sent m.log; sent = m.sent }

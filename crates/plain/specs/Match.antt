-- The plain match: what it keeps, what it answers to a turn, and what the turn leaves.
use Rattle.std.specs.Prelude.{ℕ, ◌+◌, min, max, Bool, true, false, cond, not, ◌&&◌, List, [], ◌∷◌, ◌++◌, length, is_some, Some, None, Option, ◌==◌, nat_le, nat_lt, slice_index_or}
use Rattle.std.specs.Bool.{beq}
use Rattle.std.specs.Option.{unwrap_or}
use Rattle.interface.specs.declared.answers.Refusal.{Refusal}
use Rattle.interface.specs.declared.answers.Refusal.TheVariants.{UnreadCode, MatchOver, TooFarAhead, Unacknowledged, NoSuchDatagram, LogFull, BadFrame, NoSuchSeat}
use Rattle.interface.specs.Answers.{accepted, number_of}
use Rattle.interface.specs.Limits.{match_length, most_lead, most_unacknowledged, queue_slots}
use Rattle.plain.specs.Rules.{Rules}

abbrev pub other : Bool → Bool
other s = not s

-- what the plain match keeps of a seat
pub record Side (I : Type 0) : Type 0 where
  -- its true inputs, oldest first
  pub inputs : List I
  -- R: of how many frames it knows the other seat's input
  pub known_frames : ℕ
  -- A: how many of its own inputs the other seat has acknowledged
  pub acknowledged_frames : ℕ

-- what it keeps of a send: who sent, and A, P and R at that moment.
-- No answer reads A again; a datagram starts there, so with it a note tells all of its datagram.
pub record Note : Type 0 where
  pub sender : Bool
  -- A
  pub start : ℕ
  -- P
  pub end : ℕ
  -- R
  pub acknowledgement : ℕ

pub record Plain (I : Type 0) : Type 0 where
  pub seat_0 : Side I
  pub seat_1 : Side I
  -- one for each accepted send, oldest first
  pub notes : List Note

module _ {I : Type 0} where
  abbrev pub side : Plain I → Bool → Side I
  side p false = p.seat_0
  side p true = p.seat_1

  abbrev pub put : Plain I → Bool → Side I → Plain I
  put p false d = record { seat_0 = d; seat_1 = p.seat_1; notes = p.notes }
  put p true d = record { seat_0 = p.seat_0; seat_1 = d; notes = p.notes }

  -- P: how many frames the seat has played
  abbrev pub played : Plain I → Bool → ℕ
  played p s = length (side p s).inputs

  -- R
  abbrev pub known : Plain I → Bool → ℕ
  known p s = (side p s).known_frames

  -- A
  abbrev pub acknowledged : Plain I → Bool → ℕ
  acknowledged p s = (side p s).acknowledged_frames

  -- C: states 0 to C are confirmed
  abbrev pub confirmed : Plain I → Bool → ℕ
  confirmed p s = min (played p s) (known p s)

  -- the note with this number; past the last, an empty one
  abbrev pub note : Plain I → ℕ → Note
  note p k = slice_index_or p.notes k (record { sender = false; start = 0; end = 0; acknowledgement = 0 })

  -- a match that has just been opened
  abbrev pub fresh : Plain I
  fresh =
      let d : Side I = record { inputs = []; known_frames = 0; acknowledged_frames = 0 } in
      record { seat_0 = d; seat_1 = d; notes = [] }

-- how many slots a turn is lent for each of the acting seat's queues
pub record Lent : Type 0 where
  pub own_slots : ℕ
  pub other_slots : ℕ
  pub digest_slots : ℕ

abbrev pub rightly_lent : Lent → Bool
rightly_lent l = l.own_slots == queue_slots && l.other_slots == queue_slots && l.digest_slots == queue_slots

-- what a turn asks for
pub data Move : Type 0 where
  -- press this code
  Press : ℕ → Move
  -- send, with so many records of the log lent
  Send : ℕ → Move
  -- take the datagram with this number, with so many records of the log lent
  Take : ℕ → ℕ → Move

pub record Turn : Type 0 where
  -- any number; only 0 and 1 are seats
  pub seat : ℕ
  pub slots : Lent
  pub move : Move

abbrev pub turn : ℕ → Lent → Move → Turn
turn n l m = record { seat = n; slots = l; move = m }

abbrev pub seat_number : Bool → ℕ
seat_number s = cond s 1 0

-- the seat that a turn is of, once its number is known to be 0 or 1
abbrev pub acting : Turn → Bool
acting t = t.seat == 1

-- the number answered: 0, or the refusal's
abbrev pub answered : Option Refusal → ℕ
answered None = accepted
answered (Some why) = number_of why

-- the old where there is a refusal, else the new
abbrev pub unless_refused : {X : Type 0} → Option Refusal → X → X → X
unless_refused None old new = new
unless_refused (Some why) old new = old

module _ {I : Type 0} where
  -- why a send is refused, if it is: every record lent is used
  abbrev pub send_refusal : Plain I → ℕ → Option Refusal
  send_refusal p records = cond (nat_le records (length p.notes)) (Some LogFull) None

  -- a take: the log lent has no datagram of that number, or the taking seat sent it
  abbrev pub take_refusal : Plain I → Bool → ℕ → ℕ → Option Refusal
  take_refusal p s k records =
      cond (nat_le records k) (Some NoSuchDatagram)
      (cond (nat_le (length p.notes) k) (Some NoSuchDatagram)
      (cond (beq (note p k).sender s) (Some NoSuchDatagram)
      None))

  -- an accepted press: the input joins the seat's list
  abbrev pub pressed : Plain I → Bool → I → Plain I
  pressed p s x = put p s (record { inputs = (side p s).inputs ++ x ∷ []; known_frames = known p s; acknowledged_frames = acknowledged p s })

  -- an accepted send: it is noted
  abbrev pub noted : Plain I → Bool → Plain I
  noted p s =
      let n : Note = record { sender = s; start = acknowledged p s; end = played p s; acknowledgement = known p s } in
      record { seat_0 = p.seat_0; seat_1 = p.seat_1; notes = p.notes ++ n ∷ [] }

  -- an accepted take: R and A become what the note tells, where that is more
  abbrev pub taken : Plain I → Bool → Note → Plain I
  taken p s n = put p s (record { inputs = (side p s).inputs; known_frames = max (known p s) n.end; acknowledged_frames = max (acknowledged p s) n.acknowledgement })

module _ {S I : Type 0} where
  -- the input of a code that reads
  abbrev pub input_of : Rules S I → ℕ → I
  input_of r code = unwrap_or (r.reads code) r.idle

  -- a press: the first that applies
  abbrev pub press_refusal : Rules S I → Side I → ℕ → Option Refusal
  press_refusal r d code =
      cond (not (is_some (r.reads code))) (Some UnreadCode)
      (cond (length d.inputs == match_length) (Some MatchOver)
      (cond (length d.inputs == d.known_frames + most_lead) (Some TooFarAhead)
      (cond (length d.inputs == d.acknowledged_frames + most_unacknowledged) (Some Unacknowledged)
      None)))

  abbrev pub move_refusal : Rules S I → Plain I → Bool → Move → Option Refusal
  move_refusal r p s (Press code) = press_refusal r (side p s) code
  move_refusal r p s (Send records) = send_refusal p records
  move_refusal r p s (Take k records) = take_refusal p s k records

  abbrev pub moved : Rules S I → Plain I → Bool → Move → Plain I
  moved r p s (Press code) = pressed p s (input_of r code)
  moved r p s (Send records) = noted p s
  moved r p s (Take k records) = taken p s (note p k)

  -- why a turn is refused, if it is: for its seat, else for its slots, else for its move
  abbrev pub refusal : Rules S I → Plain I → Turn → Option Refusal
  refusal r p t =
      cond (nat_lt 1 t.seat) (Some NoSuchSeat)
      (cond (not (rightly_lent t.slots)) (Some BadFrame)
      (move_refusal r p (acting t) t.move))

  -- what a match answers to a turn
  abbrev pub answer : Rules S I → Plain I → Turn → ℕ
  answer r p t = answered (refusal r p t)

  -- the match after a turn
  abbrev pub after : Rules S I → Plain I → Turn → Plain I
  after r p t = unless_refused (refusal r p t) p (moved r p (acting t) t.move)

  -- the match after some more turns, in their order
  abbrev pub onward : Rules S I → Plain I → List Turn → Plain I
  onward r p [] = p
  onward r p (t ∷ ts) = onward r (after r p t) ts

  -- the match after a list of turns on a fresh one
  abbrev pub run : Rules S I → List Turn → Plain I
  run r ts = onward r fresh ts

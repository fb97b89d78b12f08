-- What it means that a match is as a list of turns left it.
use Rattle.std.specs.Prelude.{◌≡◌, ℕ, ◌+◌, ◌-◌, ◌^◌, ◌<◌, ◌≤◌, Bool, true, false, cond, not, ◌&&◌, List, [], ◌∷◌, ◌++◌, map, length, take, drop, Some, ◌≢◌, nat_lt}
use Rattle.std.specs.List.{range_with_len}
use Rattle.interface.specs.Digest.{digest_of}
use Rattle.interface.specs.Games.{State}
use Rattle.interface.specs.Limits.{queue_slots, most_lead}
use Rattle.frames.specs.Queue.{held}
use Rattle.datagram.specs.Fields.{Fields}
use Rattle.datagram.specs.Layout.{bytes_of}
use Rattle.plain.specs.Rules.{Rules}
use Rattle.plain.specs.Match.{Plain, Note, Turn, other, played, known, acknowledged, note, seat_number, acting, answer, after, run}
use Rattle.plain.specs.States.{true_input, other_input, plain_state, truth, listed, replayed}
use Rattle.plain.specs.Laws.{report}
use Rattle.seat.specs.Views.{View, rightly_lent}
use Rattle.refine.specs.Setup.{Setup, rules}
use Rattle.refine.specs.Memory.{Entry, Memory, slots_of, with_slots, seat, put_seat, with_log, entry, datagram, record_bytes}
use Rattle.refine.specs.Outcomes.{Call, Pressing, Sending, Taking, Outcome, numbered, as_turn}

-- a queue with its 32 slots holds f: of each of the 32 frames before the next, or of all, its value
pub record Holds {T : Type 0} (slots : List T) (next : ℕ) (f : ℕ → T) : Type 0 where
  pub whole : length slots ≡ queue_slots
  pub values : (k : ℕ) → k < next → next ≤ k + queue_slots → held slots next k ≡ Some (f k)

-- a seat with its slots is as in the plain match
pub record SeatStands {I : Type 0} (r : Rules State I) (match_number : ℕ) (p : Plain I) (s : Bool) (v : View I) : Type 0 where
  pub its_seat : v.seat ≡ s
  pub its_number : v.match_number ≡ match_number
  -- P, R and A are the plain match's
  pub its_played : v.played ≡ played p s
  pub its_known : v.known ≡ known p s
  pub its_acknowledged : v.acknowledged ≡ acknowledged p s
  pub not_parted : v.parted ≡ false
  -- the keeper lists exactly the plain states, from P down, nine or all
  pub its_states : v.states ≡ listed r p s
  -- the queues hold the seat's true inputs, the other's below R, and the digests of the plain states
  pub own_held : Holds v.own v.played (true_input r p s)
  pub others_held : Holds v.others v.known (true_input r p (other s))
  pub digests_held : Holds v.digests (v.played + 1) (λ n. digest_of (plain_state r p s n))

-- the datagram of a note: the sender's true inputs from start to end, and the digest of the true state that it reports on
abbrev pub fields_of : {I : Type 0} → Rules State I → ℕ → Plain I → Note → Fields
fields_of r match_number p n =
    record {
      sender = seat_number n.sender;
      match_number = match_number;
      start = n.start;
      codes = map (λ f. r.code (true_input r p n.sender f)) (range_with_len n.start (n.end - n.start));
      acknowledgement = n.acknowledgement;
      report_frame = report n;
      digest = digest_of (truth r p (report n));
    }

-- a record of the log has its note's sender and datagram
pub record Sent {I : Type 0} (r : Rules State I) (match_number : ℕ) (p : Plain I) (n : Note) (e : Entry) : Type 0 where
  pub its_sender : e.sender ≡ n.sender
  pub its_bytes : datagram e ≡ bytes_of (fields_of r match_number p n)

-- a match is as the plain match p; its log has just the records sent
pub record StandsAs {I : Type 0} (r : Rules State I) (match_number : ℕ) (p : Plain I) (m : Memory I) : Type 0 where
  pub seats : (s : Bool) → SeatStands r match_number p s (seat m s)
  pub all_sent : m.sent ≡ length p.notes
  pub all_logged : length m.log ≡ m.sent
  pub log_stands : (k : ℕ) → k < m.sent → Sent r match_number p (note p k) (entry m k)
  pub number_fits : match_number < 2 ^ 16

-- a match is as the turns ts on a fresh one left it
abbrev pub Stands : {I : Type 0} → Setup I → ℕ → List Turn → Memory I → Type 0
Stands a match_number ts m = StandsAs (rules a) match_number (run (rules a) ts) m

-- What a call is brought.

-- 32 slots of each kind, for a number that is a seat's
abbrev pub well_brought : {I : Type 0} → Memory I → ℕ → Bool
well_brought b n = not (nat_lt 1 n) && rightly_lent (seat b (numbered n))

-- The match m makes a call as number n with what b has: its own slots, or slots of a wrong number; and a log, of any length, that
-- has the records sent in their places.
pub record Brings {I : Type 0} (m b : Memory I) (n : ℕ) : Type 0 where
  pub own_slots : well_brought b n ≡ true → seat b (numbered n) ≡ seat m (numbered n)
  pub same_seat : seat b (numbered n) ≡ with_slots (seat m (numbered n)) (slots_of (seat b (numbered n)))
  pub same_other : seat b (other (numbered n)) ≡ seat m (other (numbered n))
  pub same_sent : b.sent ≡ m.sent
  pub same_log : (k : ℕ) → k < m.sent → k < length b.log → entry b k ≡ entry m k

-- the record that a send writes has room for any datagram
abbrev pub HasRoom : {I : Type 0} → Memory I → Call → Type 0
HasRoom b (Pressing code) = Unit
HasRoom b Sending = b.sent < length b.log → length (entry b b.sent).bytes ≡ record_bytes
HasRoom b (Taking k) = Unit

-- the match once the call has left o: slots of a wrong number are put aside, and a record sent joins the log
abbrev pub returned : {I : Type 0} → Memory I → Memory I → ℕ → Memory I → Memory I
returned m b n o = put_seat (with_log o (m.log ++ drop m.sent (take o.sent o.log))) (numbered n) (cond (well_brought b n) (seat o (numbered n)) (seat m (numbered n)))

-- a turn t of the plain match p has its seat replay n frames: P less the lowest frame below P whose other-seat input, known or
-- predicted, is another after the turn than before it, and 0 where none is
pub record ReplaysFrames {S I : Type 0} (r : Rules S I) (p : Plain I) (t : Turn) (n : ℕ) : Type 0 where
  pub within : n ≤ played p (acting t)
  pub few : n ≤ most_lead
  pub starts_at_a_change : 0 < n → other_input r (after r p t) (acting t) (played p (acting t) - n) ≢ other_input r p (acting t) (played p (acting t) - n)
  pub no_change_below : (f : ℕ) → f < played p (acting t) - n → other_input r (after r p t) (acting t) f ≡ other_input r p (acting t) f

-- What a call keeps: whatever turns came before, a match that stands brings its own, stands after it, and is answered as
-- the plain match answers.
pub record GoesOn {I : Type 0} (a : Setup I) (match_number : ℕ) (ts : List Turn) (m b : Memory I) (n : ℕ) (c : Call) (o : Outcome I) : Type 0 where
  pub stands : Stands a match_number (ts ++ as_turn b n c ∷ []) (returned m b n o.left)
  pub answers : o.code ≡ answer (rules a) (run (rules a) ts) (as_turn b n c)
  pub replays : o.frames ≡ replayed (rules a) (run (rules a) ts) (as_turn b n c)
  pub replays_frames : ReplaysFrames (rules a) (run (rules a) ts) (as_turn b n c) o.frames

abbrev pub KeepsStanding : {I : Type 0} → Setup I → Memory I → ℕ → Call → Outcome I → Type 0
KeepsStanding {I} a b n c o = (match_number : ℕ) (ts : List Turn) (m : Memory I) → Stands a match_number ts m → Brings m b n → GoesOn a match_number ts m b n c o

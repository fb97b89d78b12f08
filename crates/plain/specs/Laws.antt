-- The laws of the plain match. r are any rules, and ts any list of turns on a fresh match, so that p = run r ts is any match
-- that can come to be. src/lib.rt states each law by the contract of a function.
use Rattle.std.specs.Prelude.{◌≡◌, ℕ, ◌+◌, ◌-◌, ◌<◌, ◌≤◌, min, Bool, true, List, ◌∷◌, ◌++◌, length, take, Some, ◌≢◌}
use Rattle.std.specs.List.{slice_get}
use Rattle.interface.specs.declared.answers.Refusal.TheVariants.{Unacknowledged}
use Rattle.interface.specs.Answers.{accepted, number_of}
use Rattle.interface.specs.Limits.{match_length, most_lead, most_listed}
use Rattle.plain.specs.Rules.{Rules, ReadsBack}
use Rattle.plain.specs.Match.{Plain, Note, Turn, Lent, Press, Send, Take, other, played, known, acknowledged, confirmed, note, turn, seat_number, acting, rightly_lent, input_of, taken, answer, after, run}
use Rattle.plain.specs.States.{plain_state, truth, other_input, stepped, listed, replayed}
use Rattle.plain.specs.Turns.{Sends, CaughtUp}

-- 1. The counts.

pub record Counts {I : Type 0} (p : Plain I) (s : Bool) : Type 0 where
  -- R is at most the other's P
  pub known_was_played : known p s ≤ played p (other s)
  -- A is at most the other's R
  pub acknowledged_is_known : acknowledged p s ≤ known p (other s)
  -- P is at most R + 8
  pub plays_near_the_known : played p s ≤ known p s + most_lead
  -- R is at most A + 8
  pub knows_near_the_acknowledged : known p s ≤ acknowledged p s + most_lead
  -- P is at most 60,000
  pub plays_within_the_match : played p s ≤ match_length

-- how many codes the datagram of a note carries
abbrev pub codes : Note → ℕ
codes n = n.end - n.start

pub record CountLaws {S I : Type 0} (r : Rules S I) (p : Plain I) : Type 0 where
  pub counts : (s : Bool) → Counts p s
  -- no turn is answered 13
  pub never_unacknowledged : (t : Turn) → answer r p t ≢ number_of Unacknowledged

abbrev pub CountsHold : Type 0 → Type 0 → Type 0
CountsHold S I = (r : Rules S I) (ts : List Turn) → CountLaws r (run r ts)

-- no send carries more codes than this
abbrev pub CodesWithin : Type 0 → Type 0 → ℕ → Type 0
CodesWithin S I most = (r : Rules S I) (ts : List Turn) (k : ℕ) → k < length (run r ts).notes → codes (note (run r ts) k) ≤ most

-- 2. Confirmed states.

-- the seat lists x as its state n
abbrev pub Lists : {S I : Type 0} → Rules S I → Plain I → Bool → ℕ → S → Type 0
Lists r p s n x = (n ≤ played p s) × (slice_get (listed r p s) (played p s - n) ≡ Some x)

-- a match p now, and q then: after any turns that follow, or none
pub record ConfirmedLaws {S I : Type 0} (r : Rules S I) (p q : Plain I) : Type 0 where
  -- a confirmed plain state is the true one
  pub is_the_truth : (s : Bool) (n : ℕ) → n ≤ confirmed p s → plain_state r p s n ≡ truth r p n
  -- what is confirmed stays so
  pub stays_confirmed : (s : Bool) → confirmed p s ≤ confirmed q s
  -- and never changes
  pub never_changes : (s : Bool) (n : ℕ) → n ≤ confirmed p s → plain_state r q s n ≡ plain_state r p s n
  -- a state that a seat has confirmed now, and a seat then, is the same state
  pub all_agree : (s t : Bool) (n : ℕ) → n ≤ confirmed p s → n ≤ confirmed q t → plain_state r p s n ≡ plain_state r q t n
  -- where a seat lists a confirmed state now, and a seat then, they list the same
  pub lists_agree : (s t : Bool) (n : ℕ) (x y : S) → n ≤ confirmed p s → n ≤ confirmed q t → Lists r p s n x → Lists r q t n y → x ≡ y

abbrev pub ConfirmedAgree : Type 0 → Type 0 → Type 0
ConfirmedAgree S I = (r : Rules S I) (ts more : List Turn) → ConfirmedLaws r (run r ts) (run r (ts ++ more))

-- a seat lists so many of its plain states, from state P down, or all
abbrev pub ListsLast : Type 0 → Type 0 → ℕ → Type 0
ListsLast S I most = (r : Rules S I) (ts : List Turn) (s : Bool) (n : ℕ) → n ≤ played (run r ts) s → played (run r ts) s < n + most → Lists r (run r ts) s n (plain_state r (run r ts) s n)

-- 3. What a turn does to plain states.

-- the seat's plain states up to n are the same in q as in p
abbrev pub SameUpTo : {S I : Type 0} → Rules S I → Bool → ℕ → Plain I → Plain I → Type 0
SameUpTo r s n p q = (k : ℕ) → k ≤ n → plain_state r q s k ≡ plain_state r p s k

-- an accepted press: P grows by 1, and the new state is the next one
pub record PressAdds {S I : Type 0} (r : Rules S I) (p q : Plain I) (s : Bool) (x : I) : Type 0 where
  pub one_frame : played q s ≡ played p s + 1
  pub next_state : plain_state r q s (played q s) ≡ stepped r s (plain_state r p s (played p s)) x (other_input r p s (played p s))
  pub next_listed : listed r q s ≡ take most_listed (stepped r s (plain_state r p s (played p s)) x (other_input r p s (played p s)) ∷ listed r p s)

pub record StateLaws {S I : Type 0} (r : Rules S I) (p : Plain I) : Type 0 where
  -- a refused turn changes nothing
  pub refused_keeps_all : (t : Turn) → (answer r p t ≢ accepted) → after r p t ≡ p
  -- a turn changes no state of the seat that it is not of
  pub others_keep : (t : Turn) (n : ℕ) → SameUpTo r (other (acting t)) n p (after r p t)
  -- a press changes none of the seat's states
  pub press_keeps : (n : ℕ) (l : Lent) (code : ℕ) → let t = turn n l (Press code) in SameUpTo r (acting t) (played p (acting t)) p (after r p t)
  -- and adds the next
  pub press_adds : (n : ℕ) (l : Lent) (code : ℕ) → let t = turn n l (Press code) in answer r p t ≡ accepted → PressAdds r p (after r p t) (acting t) (input_of r code)
  -- a send changes none
  pub send_keeps : (n : ℕ) (l : Lent) (records : ℕ) (s : Bool) (m : ℕ) → SameUpTo r s m p (after r p (turn n l (Send records)))
  -- a take changes none up to the lowest frame with another input, which is P less the frames replayed
  pub take_keeps : ReadsBack r → (n : ℕ) (l : Lent) (k records : ℕ) → let t = turn n l (Take k records) in SameUpTo r (acting t) (played p (acting t) - replayed r p t) p (after r p t)

abbrev pub StatesKept : Type 0 → Type 0 → Type 0
StatesKept S I = (r : Rules S I) (ts : List Turn) → StateLaws r (run r ts)

-- 4. The frames replayed.

pub record ReplayLaws {S I : Type 0} (r : Rules S I) (p : Plain I) (t : Turn) (most : ℕ) : Type 0 where
  pub few : replayed r p t ≤ most
  -- no frame at and above P is replayed
  pub within : replayed r p t ≤ played p (acting t)
  -- the first frame replayed has another input of the other seat than before
  pub starts_at_a_change : 0 < replayed r p t → let f = played p (acting t) - replayed r p t in other_input r (after r p t) (acting t) f ≡ other_input r p (acting t) f → ⊥
  -- and every frame below it the same
  pub no_change_below : ReadsBack r → (f : ℕ) → f < played p (acting t) - replayed r p t → other_input r (after r p t) (acting t) f ≡ other_input r p (acting t) f

pub record Replays {S I : Type 0} (r : Rules S I) (p : Plain I) (most : ℕ) : Type 0 where
  pub of_a_turn : (t : Turn) → ReplayLaws r p t most
  -- a refused turn, a press and a send replay nothing
  pub refused_replays_nothing : (t : Turn) → (answer r p t ≢ accepted) → replayed r p t ≡ 0
  pub press_replays_nothing : (n : ℕ) (l : Lent) (code : ℕ) → replayed r p (turn n l (Press code)) ≡ 0
  pub send_replays_nothing : (n : ℕ) (l : Lent) (records : ℕ) → replayed r p (turn n l (Send records)) ≡ 0

abbrev pub ReplaysWithin : Type 0 → Type 0 → ℕ → Type 0
ReplaysWithin S I most = (r : Rules S I) (ts : List Turn) → Replays r (run r ts) most

-- 5. What a take is handed.

-- the frame that the datagram of a note reports on: C at the send
abbrev pub report : Note → ℕ
report n = min n.end n.acknowledgement

-- no check of a take refuses this note
pub record Welcome {I : Type 0} (most : ℕ) (p : Plain I) (s : Bool) (n : Note) : Type 0 where
  pub start_at_most_known : n.start ≤ known p s
  pub end_near : n.end ≤ played p s + most
  pub end_within_the_match : n.end ≤ match_length
  pub acknowledgement_at_most_played : n.acknowledgement ≤ played p s
  pub report_at_most_played : report n ≤ played p s
  pub report_confirmed_after : report n ≤ confirmed (taken p s n) s
  -- its codes are those from its start to its end
  pub start_at_most_end : n.start ≤ n.end

abbrev pub WelcomeWithin : Type 0 → Type 0 → ℕ → Type 0
WelcomeWithin S I most = (r : Rules S I) (ts : List Turn) (s : Bool) (k : ℕ) → k < length (run r ts).notes → (note (run r ts) k).sender ≡ other s → Welcome most (run r ts) s (note (run r ts) k)

-- the state that a datagram reports on is the same at the sender, when it was sent, and at the other seat, once it is taken
abbrev pub ReportsAgree : Type 0 → Type 0 → Type 0
ReportsAgree S I = (r : Rules S I) (ts : List Turn) (s : Bool) (i k : ℕ) → Sends r ts (other s) i k → let n = note (run r ts) k in (report n ≡ confirmed (run r (take i ts)) (other s)) × (plain_state r (taken (run r ts) s n) s (report n) ≡ plain_state r (run r (take i ts)) (other s) (report n))

-- 6. The press that is never refused.

-- A seat that has accepted a datagram which the other sent after its last accepted press (or the other has none), and
-- has played no more frames than the other, is answered 0 to a press below frame 60,000 with its slots and a code that reads.
abbrev pub PressesGoOn : Type 0 → Type 0 → ℕ → Type 0
PressesGoOn S I end = (r : Rules S I) (ts : List Turn) (s : Bool) (l : Lent) (code : ℕ) (x : I) → CaughtUp r ts s → played (run r ts) s ≤ played (run r ts) (other s) → played (run r ts) s < end → rightly_lent l ≡ true → r.reads code ≡ Some x → answer r (run r ts) (turn (seat_number s) l (Press code)) ≡ accepted

-- The laws of a match that stands. src/lib.rt states each by the contract of a function.
use Rattle.std.specs.Prelude.{◌≡◌, ℕ, ◌+◌, ◌-◌, ◌^◌, ◌<◌, ◌≤◌, Bool, true, false, ◌⊎◌, List, [], ◌∷◌, ◌++◌, length, Some, ◌≢◌, slice_set}
use Rattle.std.specs.List.{slice_get}
use Rattle.interface.specs.declared.answers.Refusal.TheVariants.{UnreadCode, MatchOver, TooFarAhead, NoSuchDatagram, LogFull, BadFrame, NoSuchSeat}
use Rattle.interface.specs.Answers.{accepted, accepted_and_parted, number_of}
use Rattle.interface.specs.Digest.{digest_of}
use Rattle.interface.specs.Games.{State}
use Rattle.plain.specs.Match.{Turn, other, seat_number, run}
use Rattle.plain.specs.States.{truth}
use Rattle.plain.specs.Turns.{CaughtUp}
use Rattle.seat.specs.Views.{View, confirmed}
use Rattle.refine.specs.Setup.{Setup, rules, Lawful}
use Rattle.refine.specs.Memory.{Entry, SlotLists, Memory, seat, sent_part}
use Rattle.refine.specs.Outcomes.{Call, Pressing, result}
use Rattle.refine.specs.Standing.{Stands, well_brought, Brings, HasRoom, GoesOn}

-- 1. A match that is just opened stands at no turns.

-- a seat just opened: the opening alone is listed, and its digest is put
abbrev pub opened_seat : {I : Type 0} → State → ℕ → Bool → SlotLists I → View I
opened_seat opening match_number s x = record { seat = s; match_number = match_number; played = 0; known = 0; acknowledged = 0; parted = false; states = opening ∷ []; own = x.own; others = x.others; digests = slice_set x.digests 0 (digest_of opening) }

-- a match just opened, with the slots of both seats, and any log
abbrev pub opened : {I : Type 0} → State → ℕ → SlotLists I → SlotLists I → List Entry → Memory I
opened opening match_number x y log = record { seat_0 = opened_seat opening match_number false x; seat_1 = opened_seat opening match_number true y; log = log; sent = 0 }

pub record AllSlots {I : Type 0} (slots : ℕ) (x : SlotLists I) : Type 0 where
  pub own : length x.own ≡ slots
  pub others : length x.others ≡ slots
  pub digests : length x.digests ≡ slots

abbrev pub OpeningsStand : Type 0 → ℕ → Type 0
OpeningsStand I slots = (a : Setup I) (match_number : ℕ) (x y : SlotLists I) (log : List Entry) → match_number < 2 ^ 16 → AllSlots slots x → AllSlots slots y → Stands a match_number [] (sent_part (opened a.opening match_number x y log))

-- 2. What every call does.

-- the numbers that a match answers
abbrev pub match_answers : List ℕ
match_answers = accepted ∷ number_of UnreadCode ∷ number_of MatchOver ∷ number_of TooFarAhead ∷ number_of NoSuchDatagram ∷ number_of LogFull ∷ number_of BadFrame ∷ number_of NoSuchSeat ∷ []

abbrev pub OneOf : List ℕ → ℕ → Type 0
OneOf [] n = ⊥
OneOf (x ∷ xs) n = (n ≡ x) ⊎ OneOf xs n

-- a call of a match that stands: it is answered as the plain match answers, replays the frames that the plain match says, and
-- leaves a match that stands
pub record CallLaws {I : Type 0} (a : Setup I) (match_number : ℕ) (ts : List Turn) (m b : Memory I) (n : ℕ) (c : Call) (most : ℕ) : Type 0 where
  pub goes_on : GoesOn a match_number ts m b n c (result a b n c)
  pub few_frames : (result a b n c).frames ≤ most
  -- so no datagram is refused, no keeper is asked to go back too far, and no seat parts
  pub usual_answer : OneOf match_answers (result a b n c).code

abbrev pub CallsGoOn : Type 0 → ℕ → Type 0
CallsGoOn I most = (a : Setup I) → Lawful a → (match_number : ℕ) (ts : List Turn) (m b : Memory I) (n : ℕ) (c : Call) → Stands a match_number ts m → Brings m b n → HasRoom b c → CallLaws a match_number ts m b n c most

-- any call that is not accepted, whatever it is brought, leaves all as it was and replays nothing
abbrev pub RefusalsKeep : Type 0 → Type 0
RefusalsKeep I = (a : Setup I) (b : Memory I) (n : ℕ) (c : Call) → ((result a b n c).code ≢ accepted) → ((result a b n c).code ≢ accepted_and_parted) → ((result a b n c).left ≡ b) × ((result a b n c).frames ≡ 0)

-- 3. What the keepers list at two moments of a run, or at one.

-- the seat's keeper lists the words x as its state n
abbrev pub Lists : {I : Type 0} → View I → ℕ → State → Type 0
Lists v n x = (n ≤ v.played) × (slice_get v.states (v.played - n) ≡ Some x)

-- it does, and has confirmed it
abbrev pub ListsConfirmed : {I : Type 0} → View I → ℕ → State → Type 0
ListsConfirmed v n x = (n ≤ confirmed v) × Lists v n x

-- a match m now, and m' then: at the same moment or a later one
pub record Moments {I : Type 0} (m m' : Memory I) : Type 0 where
  -- no seat parts
  pub never_parts : (s : Bool) → (seat m s).parted ≡ false
  -- what a seat has confirmed stays confirmed
  pub stays_confirmed : (s : Bool) → confirmed (seat m s) ≤ confirmed (seat m' s)
  -- a state once confirmed by a seat is never listed by it with other words
  pub never_changes : (s : Bool) (n : ℕ) (x y : State) → ListsConfirmed (seat m s) n x → Lists (seat m' s) n y → x ≡ y
  -- where a seat lists a state as confirmed now, and either seat then, the words are equal
  pub all_agree : (s t : Bool) (n : ℕ) (x y : State) → ListsConfirmed (seat m s) n x → ListsConfirmed (seat m' t) n y → x ≡ y

abbrev pub RunsAgree : Type 0 → Type 0
RunsAgree I = (a : Setup I) (match_number : ℕ) (ts more : List Turn) (m m' : Memory I) → Stands a match_number ts m → Stands a match_number (ts ++ more) m' → Moments m m'

-- a state that a seat has confirmed is the true one, wherever a seat lists it as confirmed from then on
abbrev pub ListsTheTruth : Type 0 → Type 0
ListsTheTruth I = (a : Setup I) (match_number : ℕ) (ts more : List Turn) (m m' : Memory I) → Stands a match_number ts m → Stands a match_number (ts ++ more) m' → (s t : Bool) (n : ℕ) (y : State) → n ≤ confirmed (seat m s) → ListsConfirmed (seat m' t) n y → y ≡ truth (rules a) (run (rules a) ts) n

-- and a seat lists each of its last states that it has confirmed, so many or all
abbrev pub ListsLast : Type 0 → ℕ → Type 0
ListsLast I most = (a : Setup I) (match_number : ℕ) (ts : List Turn) (m : Memory I) → Stands a match_number ts m → (s : Bool) (n : ℕ) → n ≤ confirmed (seat m s) → (seat m s).played < n + most → ListsConfirmed (seat m s) n (truth (rules a) (run (rules a) ts) n)

-- 4. The press that is never refused.

-- A seat that has accepted a datagram which the other sent after its last accepted press (or the other has none), and has played no
-- more frames than the other, is answered 0 to a press below frame 60,000 with its slots and a code that reads.
abbrev pub PressesGoOn : Type 0 → ℕ → Type 0
PressesGoOn I end = (a : Setup I) → Lawful a → (match_number : ℕ) (ts : List Turn) (m b : Memory I) (s : Bool) (code : ℕ) (x : I) → Stands a match_number ts m → Brings m b (seat_number s) → well_brought b (seat_number s) ≡ true → CaughtUp (rules a) ts s → (seat m s).played ≤ (seat m (other s)).played → (seat m s).played < end → a.reads code ≡ Some x → (result a b (seat_number s) (Pressing code)).code ≡ accepted

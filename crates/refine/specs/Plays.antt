-- A whole list of calls on one match: what each answers, and what they leave. Each is lent the front of the seat's own slots and of
-- the caller's log: all of them, or fewer.
use Rattle.std.specs.Prelude.{◌≡◌, ℕ, ◌^◌, ◌<◌, ◌≤◌, Bool, true, cond, List, [], ◌∷◌, ◌++◌, length, take, drop, Some, slice_index_or}
use Rattle.std.specs.List.{slice_get}
use Rattle.interface.specs.Answers.{accepted}
use Rattle.interface.specs.Limits.{match_length}
use Rattle.plain.specs.Match.{Lent, Turn, other, answer, run, seat_number}
use Rattle.plain.specs.States.{replayed}
use Rattle.plain.specs.Turns.{CaughtUp}
use Rattle.seat.specs.Views.{View}
use Rattle.refine.specs.Setup.{Setup, rules, Lawful}
use Rattle.refine.specs.Memory.{Entry, SlotLists, Memory, with_slots, seat, put_seat, with_log, sent_part, no_entry, record_bytes}
use Rattle.refine.specs.Outcomes.{Call, Pressing, Outcome, numbered, result, as_turn}
use Rattle.refine.specs.Standing.{Stands, well_brought}
use Rattle.refine.specs.Laws.{opened, AllSlots, Moments}

pub record Step : Type 0 where
  -- any number; only 0 and 1 are seats
  pub number : ℕ
  pub call : Call
  -- how many of the seat's own slots it is lent, of each queue, and of the records; or all, where there are fewer
  pub slots : Lent
  pub records : ℕ

pub record Told : Type 0 where
  pub code : ℕ
  pub frames : ℕ
  pub played : ℕ
  pub known : ℕ

module _ {I : Type 0} where
  -- a seat with the front of its slots
  abbrev pub cut : Lent → View I → View I
  cut l v = with_slots v (record { own = take l.own_slots v.own; others = take l.other_slots v.others; digests = take l.digest_slots v.digests })

  -- what a step is brought
  abbrev pub brought : Memory I → Step → Memory I
  brought m x = with_log (put_seat m (numbered x.number) (cut x.slots (seat m (numbered x.number)))) (take x.records m.log)

  -- the step as a turn of the plain match
  abbrev pub turn_of : Memory I → Step → Turn
  turn_of m x = as_turn (brought m x) x.number x.call

  -- the match once the call has left o: what it was not lent is as it was
  abbrev pub put_back : Memory I → Step → Memory I → Memory I
  put_back m x o =
      let s = numbered x.number in
      put_seat (with_log o (o.log ++ drop x.records m.log)) s (cond (well_brought (brought m x) x.number) (seat o s) (seat m s))

module _ {I : Type 0} (a : Setup I) where
  abbrev pub step_result : Memory I → Step → Outcome I
  step_result m x = result a (brought m x) x.number x.call

  abbrev pub next : Memory I → Step → Memory I
  next m x = put_back m x (step_result m x).left

  -- the match after some steps
  unfoldable pub through : Memory I → List Step → Memory I
  through m [] = m
  through m (x ∷ xs) = through (next m x) xs

  -- what each of them answers, with the seat's P and R after it
  abbrev pub told : Memory I → Step → Told
  told m x =
      let v = seat (next m x) (numbered x.number) in
      record { code = (step_result m x).code; frames = (step_result m x).frames; played = v.played; known = v.known }

  unfoldable pub tale : Memory I → List Step → List Told
  tale m [] = []
  tale m (x ∷ xs) = told m x ∷ tale (next m x) xs

  -- the turns that they are
  unfoldable pub turns : Memory I → List Step → List Turn
  turns m [] = []
  turns m (x ∷ xs) = turn_of m x ∷ turns (next m x) xs

-- each record of the log has room for any datagram
abbrev pub Roomy : List Entry → Type 0
Roomy log = (k : ℕ) → k < length log → length (slice_index_or log k no_entry).bytes ≡ record_bytes

-- a fresh match: m, and every list of steps on it
pub record PlaysAsPlain {I : Type 0} (a : Setup I) (match_number : ℕ) (m : Memory I) : Type 0 where
  -- after any steps it stands
  pub stands : (xs : List Step) → Stands a match_number (turns a m xs) (sent_part (through a m xs))
  -- the next step is answered as the plain match answers, and replays the frames that the plain match says
  pub answers : (xs : List Step) (x : Step) → (step_result a (through a m xs) x).code ≡ answer (rules a) (run (rules a) (turns a m xs)) (turn_of (through a m xs) x)
  pub replays : (xs : List Step) (x : Step) → (step_result a (through a m xs) x).frames ≡ replayed (rules a) (run (rules a) (turns a m xs)) (turn_of (through a m xs) x)
  -- and so it is told, in the order of the steps
  pub tells : (xs more : List Step) (x : Step) → slice_get (tale a m (xs ++ x ∷ more)) (length xs) ≡ Some (told a (through a m xs) x)
  -- what the keepers list after some steps, and after more
  pub agree : (xs more : List Step) → Moments (through a m xs) (through a m (xs ++ more))
  -- the press that is never refused
  pub presses_go_on : (xs : List Step) (s : Bool) (code : ℕ) (l : Lent) (records : ℕ) (i : I) → let m' = through a m xs in let x : Step = record { number = seat_number s; call = Pressing code; slots = l; records = records } in CaughtUp (rules a) (turns a m xs) s → (seat m' s).played ≤ (seat m' (other s)).played → (seat m' s).played < match_length → well_brought (brought m' x) (seat_number s) ≡ true → a.reads code ≡ Some i → (step_result a m' x).code ≡ accepted

abbrev pub PlaysStand : Type 0 → ℕ → Type 0
PlaysStand I slots = (a : Setup I) → Lawful a → (match_number : ℕ) (x y : SlotLists I) (log : List Entry) → match_number < 2 ^ 16 → AllSlots slots x → AllSlots slots y → Roomy log → PlaysAsPlain a match_number (opened a.opening match_number x y log)

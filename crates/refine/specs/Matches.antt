-- A whole list of calls on one match: what each answers, and what they leave. The caller brings slots for both seats, 32 or more for
-- each queue, of which the first 32 are the seat's own, and a log. Each call is lent slots from the front, in any number, and records from
-- the front of the log: so its own slots or a wrong number of them, and all of the log or less. A step's numbers of slots and records count from
-- there.
use Rattle.std.specs.Prelude.{◌≡◌, ℕ, ◌+◌, ◌^◌, ◌<◌, ◌≤◌, Bool, true, List, [], ◌∷◌, ◌++◌, map, length, take, drop, Some}
use Rattle.std.specs.List.{slice_get}
use Rattle.interface.specs.Answers.{accepted}
use Rattle.interface.specs.Games.{State}
use Rattle.interface.specs.Limits.{match_length, most_listed}
use Rattle.plain.specs.Rules.{Rules}
use Rattle.plain.specs.Match.{Plain, Lent, Turn, other, played, known, acting, fresh, answer, after, run, seat_number}
use Rattle.plain.specs.States.{truth, replayed}
use Rattle.plain.specs.Turns.{CaughtUp}
use Rattle.seat.specs.Views.{confirmed}
use Rattle.refine.specs.Setup.{Setup, rules, Lawful}
use Rattle.refine.specs.Memory.{Entry, SlotLists, Memory, slots_of, with_slots, seat, put_seat, with_log, joined, cut, own_part}
use Rattle.refine.specs.Outcomes.{Pressing, Outcome, numbered, result, as_turn}
use Rattle.refine.specs.Standing.{Stands, ReplaysFrames, well_brought}
use Rattle.refine.specs.Plays.{Step, Told, Roomy}
use Rattle.refine.specs.Laws.{opened, ListsConfirmed, Moments, OneOf, match_answers}

module _ {I : Type 0} where
  -- what a step is brought: slots and records from the front; the other seat is left with its own
  abbrev pub brought : Memory I → Step → Memory I
  brought m x = with_log (put_seat (own_part m) (numbered x.number) (cut x.slots (seat m (numbered x.number)))) (take x.records m.log)

  -- the step as a turn of the plain match
  abbrev pub turn_of : Memory I → Step → Turn
  turn_of m x = as_turn (brought m x) x.number x.call

  -- the match once the call has left o: what it was not lent is as it was
  abbrev pub put_back : Memory I → Step → Memory I → Memory I
  put_back m x o =
      let s = numbered x.number in
      let waiting = with_slots (seat o (other s)) (slots_of (seat m (other s))) in
      let acting = with_slots (seat o s) (joined x.slots (slots_of (seat o s)) (slots_of (seat m s))) in
      put_seat (put_seat (with_log o (o.log ++ drop x.records m.log)) (other s) waiting) s acting

module _ {I : Type 0} (a : Setup I) where
  abbrev pub step_result : Memory I → Step → Outcome I
  step_result m x = result a (brought m x) x.number x.call

  abbrev pub next : Memory I → Step → Memory I
  next m x = put_back m x (step_result m x).left

  -- the match after some steps
  unfoldable pub through : Memory I → List Step → Memory I
  through m [] = m
  through m (x ∷ xs) = through (next m x) xs

  -- what each of them answers, with the seat's P and R after it
  abbrev pub told : Memory I → Step → Told
  told m x =
      let v = seat (next m x) (numbered x.number) in
      record { code = (step_result m x).code; frames = (step_result m x).frames; played = v.played; known = v.known }

  unfoldable pub tale : Memory I → List Step → List Told
  tale m [] = []
  tale m (x ∷ xs) = told m x ∷ tale (next m x) xs

  -- the turns that they are
  unfoldable pub turns : Memory I → List Step → List Turn
  turns m [] = []
  turns m (x ∷ xs) = turn_of m x ∷ turns (next m x) xs

-- what the plain match tells of a turn, and of turns one after another
module _ {S I : Type 0} (r : Rules S I) where
  abbrev pub plain_told : Plain I → Turn → Told
  plain_told p t = record { code = answer r p t; frames = replayed r p t; played = played (after r p t) (acting t); known = known (after r p t) (acting t) }

  unfoldable pub plain_tale : Plain I → List Turn → List Told
  plain_tale p [] = []
  plain_tale p (t ∷ ts) = plain_told p t ∷ plain_tale (after r p t) ts

-- a fresh match: m, and every list of steps on it
pub record GoesAsPlain {I : Type 0} (a : Setup I) (match_number : ℕ) (m : Memory I) : Type 0 where
  -- after any steps it stands: P, R and A, what the keepers list, the queues and the log are the plain match's
  pub stands : (xs : List Step) → Stands a match_number (turns a m xs) (own_part (through a m xs))
  -- the next step is answered as the plain match answers
  pub answers : (xs : List Step) (x : Step) → (step_result a (through a m xs) x).code ≡ answer (rules a) (run (rules a) (turns a m xs)) (turn_of (through a m xs) x)
  -- so no datagram is refused, no keeper is asked to go back too far, and no seat parts
  pub usual_answers : (xs : List Step) (x : Step) → OneOf match_answers (step_result a (through a m xs) x).code
  -- and it replays the frames that the plain match says: P less the lowest frame whose other input has changed
  pub replays : (xs : List Step) (x : Step) → (step_result a (through a m xs) x).frames ≡ replayed (rules a) (run (rules a) (turns a m xs)) (turn_of (through a m xs) x)
  pub replays_frames : (xs : List Step) (x : Step) → ReplaysFrames (rules a) (run (rules a) (turns a m xs)) (turn_of (through a m xs) x) (step_result a (through a m xs) x).frames
  -- the plain match is fed the turns alone: seat, move, and the numbers of slots and records lent, which the memory brought fixes
  pub turns_alone : (xs : List Step) → turns a m xs ≡ map (turn_of m) xs
  -- and all that is told, step by step, is what the plain match tells of them
  pub tells_plain : (xs : List Step) → tale a m xs ≡ plain_tale (rules a) fresh (map (turn_of m) xs)
  -- each step is told in its place
  pub tells : (xs more : List Step) (x : Step) → slice_get (tale a m (xs ++ x ∷ more)) (length xs) ≡ Some (told a (through a m xs) x)
  -- with the plain match's P and R of that seat
  pub tells_counts : (xs : List Step) (x : Step) → let p = run (rules a) (turns a m (xs ++ x ∷ [])) in ((told a (through a m xs) x).played ≡ played p (numbered x.number)) × ((told a (through a m xs) x).known ≡ known p (numbered x.number))
  -- what the keepers list after some steps, and after more
  pub agree : (xs more : List Step) → Moments (through a m xs) (through a m (xs ++ more))
  -- a state that a seat has confirmed is the true one, wherever a seat lists it as confirmed from then on
  pub lists_the_truth : (xs more : List Step) (s t : Bool) (n : ℕ) (y : State) → n ≤ confirmed (seat (through a m xs) s) → ListsConfirmed (seat (through a m (xs ++ more)) t) n y → y ≡ truth (rules a) (run (rules a) (turns a m xs)) n
  -- and a seat lists each of its last nine states that it has confirmed
  pub lists_last : (xs : List Step) (s : Bool) (n : ℕ) → let v = seat (through a m xs) s in n ≤ confirmed v → v.played < n + most_listed → ListsConfirmed v n (truth (rules a) (run (rules a) (turns a m xs)) n)
  -- the press that is never refused
  pub presses_go_on : (xs : List Step) (s : Bool) (code : ℕ) (l : Lent) (records : ℕ) (i : I) → let m' = through a m xs in let x : Step = record { number = seat_number s; call = Pressing code; slots = l; records = records } in CaughtUp (rules a) (turns a m xs) s → (seat m' s).played ≤ (seat m' (other s)).played → (seat m' s).played < match_length → well_brought (brought m' x) (seat_number s) ≡ true → a.reads code ≡ Some i → (step_result a m' x).code ≡ accepted

-- at least so many slots of each kind
pub record EnoughSlots {I : Type 0} (slots : ℕ) (x : SlotLists I) : Type 0 where
  pub own : slots ≤ length x.own
  pub others : slots ≤ length x.others
  pub digests : slots ≤ length x.digests

abbrev pub MatchesStand : Type 0 → ℕ → Type 0
MatchesStand I slots = (a : Setup I) → Lawful a → (match_number : ℕ) (x y : SlotLists I) (log : List Entry) → match_number < 2 ^ 16 → EnoughSlots slots x → EnoughSlots slots y → Roomy log → GoesAsPlain a match_number (opened a.opening match_number x y log)

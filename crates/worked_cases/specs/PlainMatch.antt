-- Worked cases of the plain match. Inputs are the codes 0 to 15, and a state is the list of both seats' inputs, newest first,
-- so that a state shows every input that led to it. Seat 0 holds the last input, seat 1 predicts idle.
use Rattle.std.specs.Prelude.{◌≡◌, ℕ, ◌+◌, Bool, true, false, cond, List, [], ◌∷◌, ◌++◌, length, replicate, Some, None, nat_lt}
use Rattle.plain.specs.Rules.{Rules, by_rules}
use Rattle.plain.specs.Match.{Plain, Turn, Lent, Press, Send, Take, turn, acting, played, known, acknowledged, confirmed, note, press_refusal, answered, answer, after, run}
use Rattle.plain.specs.Laws.{codes}
use Rattle.plain.specs.Turns.{CaughtUp}
use Rattle.plain.specs.States.{plain_state, truth, listed, replayed}

abbrev pub State : Type 0
State = List (ℕ × ℕ)

abbrev pub hold : ℕ → ℕ → ℕ
hold last gap = last

abbrev pub still : ℕ → ℕ → ℕ
still last gap = 0

abbrev pub rules : Rules State ℕ
rules =
    record {
      opening = [];
      next = λ x a b. (a, b) ∷ x;
      idle = 0;
      reads = λ code. cond (nat_lt code 16) (Some code) None;
      code = λ x. x;
      predict = by_rules 0 hold still;
    }

-- a turn with its 32 slots in each queue, and a log of 512 where it uses one
abbrev pub lent : Lent
lent = record { own_slots = 32; other_slots = 32; digest_slots = 32 }

abbrev pub press : ℕ → ℕ → Turn
press s code = turn s lent (Press code)

abbrev pub send : ℕ → Turn
send s = turn s lent (Send 512)

abbrev pub take : ℕ → ℕ → Turn
take s k = turn s lent (Take k 512)

-- what is told of a turn: its answer, the frames replayed, and the seat's P and R after it
pub record Line : Type 0 where
  pub answers : ℕ
  pub replays : ℕ
  pub plays : ℕ
  pub knows : ℕ

abbrev pub line : ℕ → ℕ → ℕ → ℕ → Line
line a b c d = record { answers = a; replays = b; plays = c; knows = d }

abbrev pub lines : Plain ℕ → List Turn → List Line
lines p [] = []
lines p (t ∷ ts) =
    let q = after rules p t in
    line (answer rules p t) (replayed rules p t) (played q (acting t)) (known q (acting t)) ∷ lines q ts

abbrev pub told : List Turn → List Line
told ts = lines (run rules []) ts

-- P, R, A and C of a seat at the end
abbrev pub counts : List Turn → Bool → List ℕ
counts ts s = played (run rules ts) s ∷ known (run rules ts) s ∷ acknowledged (run rules ts) s ∷ confirmed (run rules ts) s ∷ []

-- the answers of the same turn made again and again
abbrev pub answers_of : List Line → List ℕ
answers_of [] = []
answers_of (l ∷ ls) = l.answers ∷ answers_of ls

-- the answer to a last turn, after others
abbrev pub last_answer : List Turn → Turn → ℕ
last_answer ts t = answer rules (run rules ts) t

-- the frames that a last turn replays
abbrev pub last_replays : List Turn → Turn → ℕ
last_replays ts t = replayed rules (run rules ts) t

-- the answer to a press of code 0 by a seat with these counts
abbrev pub answer_at : ℕ → ℕ → ℕ → ℕ
answer_at plays knows acknowledges = answered (press_refusal rules (record { inputs = replicate plays 0; known_frames = knows; acknowledged_frames = acknowledges }) 0)

abbrev pub short_game : List Turn
short_game = press 0 2 ∷ press 0 10 ∷ send 0 ∷ take 1 0 ∷ press 1 1 ∷ send 1 ∷ take 0 1 ∷ []

abbrev pub three_ahead : ℕ → ℕ → List Turn
three_ahead first second = press 0 5 ∷ press 0 5 ∷ press 0 5 ∷ press 1 first ∷ press 1 second ∷ send 1 ∷ []

-- seat 0 answers its prediction with the gap
abbrev pub gap_rules : Rules State ℕ
gap_rules =
    record {
      opening = [];
      next = λ x a b. (a, b) ∷ x;
      idle = 0;
      reads = λ code. Some code;
      code = λ x. x;
      predict = by_rules 0 (λ last gap. gap) still;
    }

-- the newest plain state of seat 0
abbrev pub newest : Rules State ℕ → List Turn → State
newest r ts = plain_state r (run r ts) false (played (run r ts) false)

abbrev pub lengths : List State → List ℕ
lengths [] = []
lengths (x ∷ xs) = length x ∷ lengths xs

abbrev pub twelve : List Turn
twelve = replicate 8 (press 1 0) ++ send 1 ∷ take 0 0 ∷ replicate 12 (press 0 0)

-- seat 0 has taken what seat 1 sent after its press
abbrev pub one_heard : List Turn
one_heard = press 1 3 ∷ send 1 ∷ take 0 0 ∷ []

pub record PlainCases : Type 0 where
  -- a short game: what is told of each turn, and the counts at the end
  pub short_game_lines : told short_game ≡ line 0 0 1 0 ∷ line 0 0 2 0 ∷ line 0 0 2 0 ∷ line 0 0 0 2 ∷ line 0 0 1 2 ∷ line 0 0 1 2 ∷ line 0 2 2 1 ∷ []
  pub short_game_seat_0 : counts short_game false ≡ 2 ∷ 1 ∷ 2 ∷ 1 ∷ []
  pub short_game_seat_1 : counts short_game true ≡ 1 ∷ 2 ∷ 0 ∷ 1 ∷ []
  -- seat 0 has seat 1's input of frame 0, and holds it in frame 1
  pub short_game_lists_0 : listed rules (run rules short_game) false ≡ ((10, 1) ∷ (2, 1) ∷ []) ∷ ((2, 1) ∷ []) ∷ [] ∷ []
  pub short_game_lists_1 : listed rules (run rules short_game) true ≡ ((2, 1) ∷ []) ∷ [] ∷ []
  pub short_game_truth : truth rules (run rules short_game) 1 ≡ (2, 1) ∷ []
  -- eight presses with R at 0 pass, and the ninth gets 12
  pub ninth_press : answers_of (told (replicate 9 (press 0 0))) ≡ 0 ∷ 0 ∷ 0 ∷ 0 ∷ 0 ∷ 0 ∷ 0 ∷ 0 ∷ 12 ∷ []
  -- hold, P 3, R 0: taking codes 0 and 1 from frame 0 replays 2, and codes 0 and 0 none
  pub replays_two : last_replays (three_ahead 0 1) (take 0 0) ≡ 2
  pub replays_none : last_replays (three_ahead 0 0) (take 0 0) ≡ 0
  -- a prediction past the new end changes too: codes 1 and 1 replay all 3, with frame 2 held at 1
  pub replays_all : last_replays (three_ahead 1 1) (take 0 0) ≡ 3
  pub holds_on : listed rules (run rules (three_ahead 1 1 ++ take 0 0 ∷ [])) false ≡ ((5, 1) ∷ (5, 1) ∷ (5, 1) ∷ []) ∷ ((5, 1) ∷ (5, 1) ∷ []) ∷ ((5, 1) ∷ []) ∷ [] ∷ []
  -- of codes 1 and 3 the last, 3, is held in frame 2
  pub holds_the_last : newest rules (three_ahead 1 3 ++ take 0 0 ∷ []) ≡ (5, 3) ∷ (5, 3) ∷ (5, 1) ∷ []
  -- the most that the laws allow is met: 16 codes in a datagram, 8 frames replayed, and an end 8 past P
  pub sixteen_codes : codes (note (run rules (replicate 8 (press 1 0) ++ send 1 ∷ take 0 0 ∷ replicate 16 (press 0 0) ++ send 0 ∷ [])) 1) ≡ 16
  pub eight_replayed : last_replays (replicate 8 (press 0 0) ++ press 1 1 ∷ send 1 ∷ []) (take 0 0) ≡ 8
  pub ends_eight_ahead : (note (run rules (replicate 8 (press 1 0) ++ send 1 ∷ [])) 0).end ≡ played (run rules (replicate 8 (press 1 0) ++ send 1 ∷ [])) false + 8
  -- the gap of frame f is f + 1 − R: with a rule that answers the gap, R 0 and then R 2
  pub gaps_from_0 : newest gap_rules (press 0 5 ∷ press 0 5 ∷ press 0 5 ∷ []) ≡ (5, 3) ∷ (5, 2) ∷ (5, 1) ∷ []
  pub gaps_from_2 : newest gap_rules (three_ahead 7 8 ++ take 0 0 ∷ []) ≡ (5, 1) ∷ (5, 8) ∷ (5, 7) ∷ []
  -- nine states are listed, and after twelve frames they are states 12 to 4
  pub nine_listed : lengths (listed rules (run rules twelve) false) ≡ 12 ∷ 11 ∷ 10 ∷ 9 ∷ 8 ∷ 7 ∷ 6 ∷ 5 ∷ 4 ∷ []
  -- a late datagram lowers nothing: seat 0 takes the second, then the first
  pub late_lowers_nothing : counts (press 1 1 ∷ send 1 ∷ press 1 1 ∷ send 1 ∷ take 0 1 ∷ take 0 0 ∷ []) false ≡ 0 ∷ 2 ∷ 0 ∷ 0 ∷ []
  -- the limits of a press: 11 at frame 60,000, 12 at R + 8, 13 at A + 32, and the order among them
  pub last_frame : answer_at 59999 59999 59999 ≡ 0
  pub past_the_last : answer_at 60000 60000 60000 ≡ 11
  pub over_before_ahead : answer_at 60000 59992 59968 ≡ 11
  pub seven_ahead : answer_at 7 0 0 ≡ 0
  pub eight_ahead : answer_at 8 0 0 ≡ 12
  pub unacknowledged_31 : answer_at 31 31 0 ≡ 0
  pub unacknowledged_32 : answer_at 32 31 0 ≡ 13
  pub ahead_before_unacknowledged : answer_at 32 24 0 ≡ 12
  pub unread_before_over : answered (press_refusal rules (record { inputs = replicate 60000 0; known_frames = 60000; acknowledged_frames = 60000 }) 16) ≡ 5
  -- a code that does not read: 5, before 12
  pub unread : last_answer (replicate 8 (press 0 0)) (press 0 16) ≡ 5
  -- the seat that has the other's latest may press, and so may one whose other has pressed nothing
  pub has_the_latest : CaughtUp rules one_heard false
  pub nothing_to_have : CaughtUp rules one_heard true
  -- a number that is no seat: 21, before any other
  pub no_such_seat : last_answer [] (turn 2 (record { own_slots = 31; other_slots = 32; digest_slots = 32 }) (Press 16)) ≡ 21
  -- any queue with other than 32 slots: 20, before the move's own
  pub short_own : last_answer [] (turn 0 (record { own_slots = 31; other_slots = 32; digest_slots = 32 }) (Press 16)) ≡ 20
  pub long_other : last_answer [] (turn 1 (record { own_slots = 32; other_slots = 33; digest_slots = 32 }) (Take 0 0)) ≡ 20
  pub no_digest_slots : last_answer [] (turn 1 (record { own_slots = 32; other_slots = 32; digest_slots = 0 }) (Send 0)) ≡ 20
  -- a log with a free record, and one without
  pub log_has_room : last_answer (send 0 ∷ []) (turn 1 lent (Send 2)) ≡ 0
  pub log_is_full : last_answer (send 0 ∷ []) (turn 1 lent (Send 1)) ≡ 18
  -- a datagram of the other seat, one's own, one that was not sent, and one past the records lent
  pub taken : last_answer (send 0 ∷ []) (take 1 0) ≡ 0
  pub own_datagram : last_answer (send 0 ∷ []) (take 0 0) ≡ 17
  pub not_sent : last_answer (send 0 ∷ []) (take 1 1) ≡ 17
  pub not_lent : last_answer (send 0 ∷ []) (turn 1 lent (Take 0 0)) ≡ 17

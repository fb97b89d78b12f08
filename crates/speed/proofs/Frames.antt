-- What follows from a whole frame.
use Rattle.std.proofs.Common.{◌≡◌, ℕ, ◌<◌, true, false, not, ◌&&◌, eqb, List, [], ◌∷◌, length, sym, refl, ap, ◌∙◌, arith}
use Rattle.std.proofs.lemmas.Bool.{cond_both, cond-true, cond-false, and_parts, not-true, eqb-false, eq-eqb, ne_eqb}
use Rattle.interface.specs.Games.{State}
use Rattle.speed.specs.declared.moves.Move.{Move}
use Rattle.speed.specs.declared.moves.Move.TheVariants.{Idle, Play, CallTurn}
use Rattle.speed.specs.Moves.{slot_number, pile_number, calls}
use Rattle.speed.specs.Places.{slot_at, top_at, at, sides, parity}
use Rattle.speed.specs.Rules.{fits, playable, played, moved, both_moved, turns, turned, sides_turned, flipped, over, next_state}
use Rattle.speed.specs.Lawful.{lawful_state}
use Rattle.speed.specs.Laws.{run, Kept}
use Rattle.speed.proofs.Numbers.{slot_lt, pile_lt}
use Rattle.speed.proofs.Ends.{over_from}
use Rattle.speed.proofs.Sound.{Sound, lawful_from}
use Rattle.speed.proofs.Keeps.{Follows, still, then, sound_after, play_follows, turn_follows, flip_follows}

pub move_follows : (w : State) → Sound w → (seat : ℕ) → seat < 2 → (move : Move) → Follows w (moved w seat move)
unfolding moved
move_follows w s seat h Idle = still w s
move_follows w s seat h (Play slot pile) =
    cond_both (playable w seat (slot_number slot) (pile_number pile)) (played w seat (slot_number slot) (pile_number pile)) w (Follows w)
    (λ yes_play. play_follows w s seat (slot_number slot) (pile_number pile) h (slot_lt slot) (pile_lt pile) (eqb-false _ _ (not-true _ (and_parts (not (eqb (at w (slot_at seat (slot_number slot))) 52)) (fits (at w (slot_at seat (slot_number slot))) (at w (top_at (pile_number pile)))) yes_play).0)))
    (λ no_play. still w s)
move_follows w s seat h CallTurn = still w s

-- one seat's move and then the other's
pub moves_follow : (w : State) → Sound w → (one other : ℕ) → one < 2 → other < 2 → (a b : Move) → Follows w (moved (moved w one a) other b)
moves_follow w s one other h g a b =
    let p = move_follows w s one h a in
    then w (moved w one a) (moved (moved w one a) other b) p (move_follows (moved w one a) (sound_after w (moved w one a) s p) other g b)

pub both_follow : (w : State) → Sound w → (first second : Move) → Follows w (both_moved w first second)
unfolding both_moved
both_follow w s first second =
    cond_both (eqb (parity w) 0) (moved (moved w 0 first) 1 second) (moved (moved w 1 second) 0 first) (Follows w)
    (λ e. moves_follow w s 0 1 (omega arith) (omega arith) first second)
    (λ e. moves_follow w s 1 0 (omega arith) (omega arith) second first)

-- sides that are turned are there
turns_some : (w : State) (first second : Move) → turns w first second ≡ true → sides w ≡ 0 → ⊥
turns_some w first second yes_turn =
    eqb-false _ _ (not-true _ (and_parts (calls second) (not (eqb (sides w) 0)) (and_parts (calls first) (calls second && not (eqb (sides w) 0)) yes_turn).1).1)

pub turned_follows : (w : State) → Sound w → (first second : Move) → Follows w (sides_turned w first second)
unfolding sides_turned
turned_follows w s first second =
    cond_both (turns w first second) (turned w) w (Follows w) (λ yes_turn. turn_follows w s (turns_some w first second yes_turn)) (λ no_turn. still w s)

-- a frame of a game that is not over
module _ (w : State) (s : Sound w) (first second : Move) where
  abbrev pub after_moves : State
  after_moves = both_moved w first second

  abbrev pub after_turn : State
  after_turn = sides_turned after_moves first second

  pub sound_moves : Sound after_moves
  sound_moves = sound_after w after_moves s (both_follow w s first second)

  pub turn_follow : Follows w after_turn
  turn_follow =
      then w after_moves after_turn (both_follow w s first second) (turned_follows after_moves sound_moves first second)

  pub sound_turn : Sound after_turn
  sound_turn = sound_after w after_turn s turn_follow

  pub frame_follows : Follows w (next_state w first second)
  unfolding next_state
  frame_follows =
      cond_both (over w) w (flipped after_turn) (Follows w) (λ ended. still w s)
      (λ goes_on. then w after_turn (flipped after_turn) turn_follow (flip_follows after_turn sound_turn))

  pub frame_sound : Sound (next_state w first second)
  frame_sound = sound_after w (next_state w first second) s frame_follows

-- words that follow those of a lawful state are lawful
pub still_lawful : (w v u : State) → Sound w → Follows w v → u ≡ v → (length u ≡ 68) × (lawful_state u ≡ true)
still_lawful w v u s p is =
    let after = sound_after w v s p in
    (ap length is ∙ after.wide, ap lawful_state is ∙ lawful_from v after)

-- the definitions that the code's parts meet
pub first_goes : (w v u : State) (first second : Move) → parity w ≡ 0 → v ≡ moved w 0 first → u ≡ moved v 1 second → u ≡ both_moved w first second
unfolding both_moved
first_goes w v u first second e v_is u_is =
    u_is ∙ (ap (λ x. moved x 1 second) v_is ∙ sym (cond-true _ _ _ (eq-eqb (parity w) 0 e)))

pub second_goes : (w v u : State) (first second : Move) → (parity w ≡ 0 → ⊥) → v ≡ moved w 1 second → u ≡ moved v 0 first → u ≡ both_moved w first second
unfolding both_moved
second_goes w v u first second e v_is u_is =
    u_is ∙ (ap (λ x. moved x 0 first) v_is ∙ sym (cond-false _ _ _ (ne_eqb (parity w) 0 e)))

pub frame_ends : (w : State) (first second : Move) → over w ≡ true → w ≡ next_state w first second
unfolding next_state
frame_ends w first second e = sym (cond-true _ _ _ e)

pub frame_goes : (w v u : State) (first second : Move) → over w ≡ false → v ≡ both_moved w first second → u ≡ sides_turned v first second → flipped u ≡ next_state w first second
unfolding next_state
frame_goes w v u first second e v_is u_is =
    ap flipped (u_is ∙ ap (λ x. sides_turned x first second) v_is) ∙ sym (cond-false _ _ _ e)

-- any later frames
run_follows : (later : List (Move × Move)) (w : State) → Sound w → Follows w (run w later)
run_follows [] w s = still w s
run_follows (moves ∷ later) w s =
    let v : State = next_state w moves.0 moves.1 in
    then w v (run v later) (frame_follows w s moves.0 moves.1) (run_follows later v (frame_sound w s moves.0 moves.1))

run_ended : (later : List (Move × Move)) (w : State) → over w ≡ true → run w later ≡ w
run_ended [] w ended = refl
run_ended (moves ∷ later) w ended =
    ap (λ v. run v later) (sym (frame_ends w moves.0 moves.1 ended)) ∙ run_ended later w ended

pub run_kept : (later : List (Move × Move)) (w : State) → Sound w → Kept w (run w later)
run_kept later w s =
    let p = run_follows later w s in
    record { same_order = p.order; no_new_card = p.fewer; draws_fall = p.draws_fall; sides_fall = p.sides_fall; ended = λ seat h none. run_ended later w (over_from w s.wide seat h none) }

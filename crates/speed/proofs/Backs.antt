-- The trail of a frame leads back to the state before it.
use Rattle.std.proofs.Common.{◌≡◌, ℕ, ◌+◌, ◌-◌, ◌*◌, ◌/◌, ◌%◌, ◌^◌, ◌<◌, ◌≤◌, true, false, cond, ◌&&◌, eqb, ◌⊎◌, List, length, take, drop, set, Some, None, Option, IfSome, Bool, subst, sym, refl, ap, ◌∙◌, inl, inr, ⊎_elim, arith}
use Rattle.std.proofs.lemmas.List.{get_or-set_same, get_or-set_other, length-set, ext_get_or, take-set-le}
use Rattle.std.proofs.lemmas.Nat.{mod-mul-add, div-mul-add}
use Rattle.std.proofs.lemmas.Bool.{cases_eq, cond_both, cond-true, cond-false, and_parts}
use Rattle.std.specs.Bool.{then_some}
use Rattle.interface.specs.Games.{State, if_lawful}
use denote.Enum.Declared.{tag_of}
use Rattle.speed.specs.contracts.places.Seat as seats
use Rattle.speed.specs.declared.places.Seat.{Seat}
use Rattle.speed.specs.declared.game.Speed.{Speed}
use Rattle.speed.specs.declared.moves.Move.{Move}
use Rattle.speed.specs.declared.moves.Move.TheVariants.{Idle, Play, CallTurn}
use Rattle.speed.specs.Moves.{slot_number, pile_number}
use Rattle.speed.specs.Places.{seat_number, slot_at, draws_at, sides_at, top_at, parity_at, at, draws, sides, parity}
use Rattle.speed.specs.Rules.{playable, played, moved, both_moved, turns, turned, sides_turned, flipped, over, next_state}
use Rattle.speed.specs.Lawful.{permutation, limits, within, none_twice, in_play, lawful_state}
use Rattle.speed.specs.Trails.{slot_of, seat_trail, trail_of, seat_back, put_back, undone_state}
use Rattle.speed.proofs.Sound.{Sound, sound_of, lawful_from, draws_le, held_le, top_lt}
use Rattle.speed.proofs.Numbers.{seat_tag, seat_lt, slot_lt, pile_lt}
use Rattle.speed.proofs.Frames.{frame_follows, sound_turn}

-- a move's slot is one of five
slot_of_lt : (move : Move) → slot_of move < 5
slot_of_lt Idle = omega arith
slot_of_lt (Play slot pile) = slot_lt slot
slot_of_lt CallTurn = omega arith

-- the places that no move and no turn writes but slots
abbrev Off : ℕ → Type 0
Off k = (k < 62) ⊎ (k ≡ 67)

write_leaves : (w : State) (i x k : ℕ) → 62 ≤ i → i < 67 → Off k → at (set w i x) k ≡ at w k
write_leaves w i x k low high h = get_or-set_other w i k x 0 (omega arith)

-- what a frame leaves, part by part
move_leaves : (w : State) (seat : ℕ) (move : Move) (k : ℕ) → seat < 2 → Off k → (k ≡ slot_at seat (slot_of move) → ⊥) → at (moved w seat move) k ≡ at w k
unfolding moved played
move_leaves w seat Idle k g h apart = refl
move_leaves w seat (Play slot pile) k g h apart =
    cond_both (playable w seat (slot_number slot) (pile_number pile)) (played w seat (slot_number slot) (pile_number pile)) w (λ v. at v k ≡ at w k)
    (λ yes_play. write_leaves _ (top_at (pile_number pile)) _ k (omega arith) (omega (arith, pile_lt pile)) h ∙ (write_leaves _ (draws_at seat) _ k (omega arith) (omega arith) h ∙ get_or-set_other w _ _ _ 0 apart))
    (λ no_play. refl)
move_leaves w seat CallTurn k g h apart = refl

turn_leaves : (w : State) (first second : Move) (k : ℕ) → Off k → at (sides_turned w first second) k ≡ at w k
unfolding sides_turned turned
turn_leaves w first second k h =
    cond_both (turns w first second) (turned w) w (λ v. at v k ≡ at w k)
    (λ yes_turn. write_leaves _ sides_at _ k (omega arith) (omega arith) h ∙ (write_leaves _ (top_at 1) _ k (omega arith) (omega arith) h ∙ write_leaves w (top_at 0) _ k (omega arith) (omega arith) h))
    (λ no_turn. refl)

both_leave : (w : State) (first second : Move) (k : ℕ) → Off k → (k ≡ slot_at 0 (slot_of first) → ⊥) → (k ≡ slot_at 1 (slot_of second) → ⊥) → at (sides_turned (both_moved w first second) first second) k ≡ at w k
unfolding both_moved
both_leave w first second k h apart_first apart_second =
    turn_leaves (both_moved w first second) first second k h
    ∙ cond_both (eqb (parity w) 0) (moved (moved w 0 first) 1 second) (moved (moved w 1 second) 0 first) (λ v. at v k ≡ at w k)
    (λ e. move_leaves (moved w 0 first) 1 second k (omega arith) h apart_second ∙ move_leaves w 0 first k (omega arith) h apart_first)
    (λ e. move_leaves (moved w 1 second) 0 first k (omega arith) h apart_first ∙ move_leaves w 1 second k (omega arith) h apart_second)

frame_leaves : (w : State) (first second : Move) (k : ℕ) → k < 62 → (k ≡ slot_at 0 (slot_of first) → ⊥) → (k ≡ slot_at 1 (slot_of second) → ⊥) → at (next_state w first second) k ≡ at w k
unfolding next_state
frame_leaves w first second k h apart_first apart_second =
    cond_both (over w) w (flipped (sides_turned (both_moved w first second) first second)) (λ v. at v k ≡ at w k) (λ ended. refl)
    (λ goes_on. get_or-set_other _ parity_at k _ 0 (omega arith) ∙ both_leave w first second k (inl h) apart_first apart_second)

-- a word that is put back, seen at place k
back_at : (v w : State) (i x k : ℕ) → i < length v → x ≡ at w i → ((k ≡ i → ⊥) → at v k ≡ at w k) → at (set v i x) k ≡ at w k
back_at v w i x k inside is others =
    ⊎_elim (λ e. ap (at (set v i x)) e ∙ (get_or-set_same v i x 0 inside ∙ (is ∙ ap (at w) (sym e))))
    (λ apart. get_or-set_other v i k x 0 apart ∙ others apart)
    (cases_eq k i)

-- the word fits, with the slot and the seat as the code has them
pub seat_trail_lt : (g : Speed) (seat : Seat) (move : Move) (slot : ℕ) → slot ≡ slot_of move → slot + 5 * (at g.words (52 + 5 * tag_of seats.the_type seat + slot) + 64 * (at g.words (62 + tag_of seats.the_type seat) + 16 * at g.words (65 + tag_of seats.the_type seat))) < 2 ^ 32
seat_trail_lt g seat move slot is =
    let s = sound_of g in
    let n : ℕ = seat_number seat in
    let below : slot < 5 = omega (arith, slot_of_lt move) in
    rw (seat_tag seat) (omega (arith, held_le g.words s n slot (seat_lt seat) below, draws_le g.words s n (seat_lt seat), top_lt g.words s n (seat_lt seat)))

-- a seat's part of the trail
seat_back_wide : (v : State) (seat trail : ℕ) → length (seat_back v seat trail) ≡ length v
unfolding seat_back
seat_back_wide v seat trail = length-set _ _ _ ∙ (length-set _ _ _ ∙ length-set v _ _)

-- the lowest digit of a seat's word, and what stands above it
low : (n d x : ℕ) → d < n → ((d + n * x) % n ≡ d) × ((d + n * x) / n ≡ x)
low n d x h =
    let turned : d + n * x ≡ x * n + d = grind arith in
    (ap (λ m. m % n) turned ∙ mod-mul-add x n d h, ap (λ m. m / n) turned ∙ div-mul-add x n d h)

seat_back_at : (v w : State) → length v ≡ 68 → Sound w → (seat : ℕ) (move : Move) (k : ℕ) → seat < 2 → slot_of move < 5 → ((k ≡ slot_at seat (slot_of move) → ⊥) → (k ≡ draws_at seat → ⊥) → (k ≡ top_at seat → ⊥) → at v k ≡ at w k) → at (seat_back v seat (seat_trail w seat move)) k ≡ at w k
unfolding seat_back
seat_back_at v w wide s seat move k h slot_below others =
    let slot : ℕ = slot_of move in
    let trail : ℕ = seat_trail w seat move in
    let card_le = held_le w s seat slot h slot_below in
    let draws_few = draws_le w s seat h in
    let upper : ℕ = draws w seat + 16 * at w (top_at seat) in
    let one = low 5 slot (at w (slot_at seat slot) + 64 * upper) slot_below in
    let two = low 64 (at w (slot_at seat slot)) upper (omega arith) in
    let three = low 16 (draws w seat) (at w (top_at seat)) (omega arith) in
    let card_is : trail / 5 % 64 ≡ at w (slot_at seat slot) = ap (λ n. n % 64) one.1 ∙ two.0 in
    let rest : trail / 5 / 64 ≡ upper = ap (λ n. n / 64) one.1 ∙ two.1 in
    let draws_is : trail / 5 / 64 % 16 ≡ draws w seat = ap (λ n. n % 16) rest ∙ three.0 in
    let top_is : trail / 5 / 64 / 16 ≡ at w (top_at seat) = ap (λ n. n / 16) rest ∙ three.1 in
    let place : slot_at seat (trail % 5) ≡ slot_at seat slot = ap (slot_at seat) one.0 in
    back_at (set (set v (slot_at seat (trail % 5)) (trail / 5 % 64)) (draws_at seat) (trail / 5 / 64 % 16)) w (top_at seat) _ k (simp length-set (omega arith)) top_is λ not_top.
    back_at (set v (slot_at seat (trail % 5)) (trail / 5 % 64)) w (draws_at seat) _ k (simp length-set (omega arith)) draws_is λ not_draws.
    back_at v w (slot_at seat (trail % 5)) _ k (omega arith) (card_is ∙ ap (at w) (sym place)) λ not_slot.
    others (λ q. not_slot (q ∙ sym place)) not_draws not_top

-- where v has the words of w outside the two slots and the last six, the trail of w leads from v to w
module _ (v w : State) (wide : length v ≡ 68) (s : Sound w) (first second : Move) where
  abbrev with_counts : State
  with_counts = set (set v sides_at (sides w)) parity_at (parity w)

  abbrev with_first : State
  with_first = seat_back with_counts 0 (seat_trail w 0 first)

  wide_counts : length with_counts ≡ 68
  wide_counts = length-set _ _ _ ∙ (length-set v _ _ ∙ wide)

  wide_first : length with_first ≡ 68
  wide_first = seat_back_wide with_counts 0 _ ∙ wide_counts

  back_is : ((k : ℕ) → k < 62 → (k ≡ slot_at 0 (slot_of first) → ⊥) → (k ≡ slot_at 1 (slot_of second) → ⊥) → at v k ≡ at w k) → put_back v (trail_of w first second) ≡ w
  unfolding put_back trail_of
  back_is same =
      ext_get_or 0 (seat_back with_first 1 (seat_trail w 1 second)) w (seat_back_wide with_first 1 _ ∙ (wide_first ∙ sym s.wide))
      λ k h.
      let inside : k < 68 = omega (arith, seat_back_wide with_first 1 (seat_trail w 1 second), wide_first) in
      seat_back_at with_first w wide_first s 1 second k (omega arith) (slot_of_lt second) λ not_slot_1 not_draws_1 not_top_1.
      seat_back_at with_counts w wide_counts s 0 first k (omega arith) (slot_of_lt first) λ not_slot_0 not_draws_0 not_top_0.
      back_at (set v sides_at (sides w)) w parity_at (parity w) k (omega (arith, length-set v sides_at (sides w))) refl λ not_parity.
      back_at v w sides_at (sides w) k (omega arith) refl λ not_sides.
      same k (omega arith) not_slot_0 not_slot_1

pub undone_frame : (w : State) → Sound w → (first second : Move) → undone_state (next_state w first second) (trail_of w first second) ≡ Some w
undone_frame w s first second =
    let v : State = next_state w first second in
    let back : put_back v (trail_of w first second) ≡ w = back_is v w ((frame_follows w s first second).wide ∙ s.wide) s first second (frame_leaves w first second) in
    ap (λ u. cond (lawful_state u) (Some u) None) back ∙ cond-true (lawful_state w) (Some w) None (lawful_from w s)

-- the seats take turns in playing first
pub frame_alternates : (w : State) → Sound w → (first second : Move) → over w ≡ false → parity (next_state w first second) ≡ 1 - parity w
unfolding next_state
frame_alternates w s first second goes_on =
    let u : State = sides_turned (both_moved w first second) first second in
    let wide : length u ≡ 68 = (sound_turn w s first second).wide in
    let same : parity u ≡ parity w = both_leave w first second 67 (inr refl) (λ e. omega (arith, slot_of_lt first)) (λ e. omega (arith, slot_of_lt second)) in
    ap parity (cond-false (over w) w (flipped u) goes_on) ∙ (get_or-set_same u parity_at _ 0 (omega arith) ∙ ap (λ n. 1 - n) same)

-- a trail never changes the order, so the rest of lawfulness decides
seat_back_order : (w : State) (seat trail : ℕ) → take 52 (seat_back w seat trail) ≡ take 52 w
unfolding seat_back
seat_back_order w seat trail =
    take-set-le 52 _ (top_at seat) _ (omega arith) ∙ (take-set-le 52 _ (draws_at seat) _ (omega arith) ∙ take-set-le 52 w (slot_at seat (trail % 5)) _ (omega arith))

back_order : (w : State) (trail : List ℕ) → take 52 (put_back w trail) ≡ take 52 w
unfolding put_back
back_order w trail =
    seat_back_order _ 1 (at trail 1) ∙ (seat_back_order _ 0 (at trail 0) ∙ (take-set-le 52 _ parity_at _ (omega arith) ∙ take-set-le 52 w sides_at _ (omega arith)))

pub back_lawful : (w v : State) (trail : List ℕ) → lawful_state w ≡ true → v ≡ put_back w trail → lawful_state v ≡ (within limits (drop 52 v) && none_twice (in_play v))
unfolding lawful_state
back_lawful w v trail lawful is =
    let whole : permutation (take 52 v) ≡ true = ap permutation (ap (take 52) is ∙ back_order w trail) ∙ (and_parts (permutation (take 52 w)) (within limits (drop 52 w) && none_twice (in_play w)) lawful).0 in
    ap (λ b. b && (within limits (drop 52 v) && none_twice (in_play v))) whole

pub undone_is : (w v : State) (trail : List ℕ) → v ≡ put_back w trail → then_some (lawful_state v) v ≡ undone_state w trail
undone_is w v trail is = go (lawful_state v) ∙ ap (if_lawful lawful_state) is
  where
    go : (b : Bool) → then_some b v ≡ cond b (Some v) None
    go true = refl
    go false = refl

pub some_lawful : (v : State) (o : Option State) → length v ≡ 68 → o ≡ then_some (lawful_state v) v → IfSome o (λ before. (length before ≡ 68) × (lawful_state before ≡ true))
some_lawful v o wide is = subst (λ o. IfSome o (λ before. (length before ≡ 68) × (lawful_state before ≡ true))) (sym is) (go (lawful_state v) refl)
  where
    go : (b : Bool) → lawful_state v ≡ b → IfSome (then_some b v) (λ before. (length before ≡ 68) × (lawful_state before ≡ true))
    go true e = (wide, e)
    go false e = tt

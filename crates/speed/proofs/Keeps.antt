-- A frame keeps lawfulness, creates no card, and lets no count rise.
use Rattle.std.proofs.Common.{◌≡◌, ℕ, ◌+◌, ◌-◌, ◌*◌, ◌<◌, ◌≤◌, eqb, length, take, set, sym, refl, ap, ◌∙◌, inl, inr, ⊎_elim, arith}
use Rattle.std.specs.List.{between}
use Rattle.std.proofs.lemmas.List.{take-set-le, get_or-set_same, get_or-set_other, length-set}
use Rattle.std.proofs.lemmas.Bool.{cases_eq, cond_both, cond-true, cond-false, eq-eqb, ne_eqb}
use Rattle.interface.specs.Games.{State}
use Rattle.speed.specs.Places.{slot_at, draws_at, sides_at, top_at, parity_at, at, draws, sides, draw_end}
use Rattle.speed.specs.Rules.{refill, played, turned, flipped}
use Rattle.speed.specs.Lawful.{times, in_play, undrawn}
use Rattle.speed.proofs.Counts.{is_card, is_other, times_step, between_set_apart, times_set, order_between, in_play_sum}
use Rattle.speed.proofs.Sound.{Sound, Ranged, ranged_set, limit_slot, limit_draws, limit_top, limit_sides, limit_parity, draws_le, held_le, sides_le, card_lt}

-- what every part of a frame keeps: v follows w
pub record Follows (w v : State) : Type 0 where
  pub wide : length v ≡ length w
  pub order : take 52 v ≡ take 52 w
  pub ranged : Ranged v
  pub fewer : (card : ℕ) → card < 52 → times card (in_play v) ≤ times card (in_play w)
  pub draws_fall : (seat : ℕ) → seat < 2 → draws v seat ≤ draws w seat
  pub sides_fall : sides v ≤ sides w

pub still : (w : State) → Sound w → Follows w w
still w s =
    record {
      wide = refl;
      order = refl;
      ranged = s.ranged;
      fewer = λ card h. omega arith;
      draws_fall = λ seat h. omega arith;
      sides_fall = omega arith;
    }

pub then : (u v w : State) → Follows u v → Follows v w → Follows u w
then u v w p q =
    record {
      wide = q.wide ∙ p.wide;
      order = q.order ∙ p.order;
      ranged = q.ranged;
      fewer = λ card h. omega (arith, p.fewer card h, q.fewer card h);
      draws_fall = λ seat h. omega (arith, p.draws_fall seat h, q.draws_fall seat h);
      sides_fall = omega (arith, p.sides_fall, q.sides_fall);
    }

-- what follows a lawful state is lawful
pub sound_after : (w v : State) → Sound w → Follows w v → Sound v
sound_after w v s p =
    record {
      wide = p.wide ∙ s.wide;
      pack = λ card h. ap (times card) p.order ∙ s.pack card h;
      ranged = p.ranged;
      apart = λ card h. omega (arith, p.fewer card h, s.apart card h);
    }

-- a card is played
module _ (w : State) (s : Sound w) (seat slot pile : ℕ) (seat_lt : seat < 2) (slot_lt : slot < 5) (pile_lt : pile < 2) (held : at w (slot_at seat slot) ≡ 52 → ⊥) where
  abbrev filled : State
  filled = set w (slot_at seat slot) (refill w seat)

  abbrev drawn : State
  drawn = set filled (draws_at seat) (draws w seat - 1)

  abbrev after : State
  after = set drawn (top_at pile) (at w (slot_at seat slot))

  wide_filled : length filled ≡ 68
  wide_filled = length-set w _ _ ∙ s.wide

  wide_drawn : length drawn ≡ 68
  wide_drawn = length-set filled _ _ ∙ wide_filled

  order_after : take 52 after ≡ take 52 w
  order_after =
      take-set-le 52 drawn _ _ (omega arith) ∙ (take-set-le 52 filled _ _ (omega arith) ∙ take-set-le 52 w _ _ (omega arith))

  refill_le : refill w seat ≤ 52
  refill_le =
      cond_both (eqb (draws w seat) 0) 52 (at w (draw_end seat - draws w seat)) (λ x. x ≤ 52) (λ e. omega arith)
      (λ e. omega (arith, card_lt w s (draw_end seat - draws w seat) (omega arith)))

  ranged_after : Ranged after
  ranged_after =
      ranged_set drawn (top_at pile) (13 + pile) _ (omega arith) wide_drawn (omega arith)
      (omega (arith, limit_top pile pile_lt, held_le w s seat slot seat_lt slot_lt))
      (ranged_set filled (draws_at seat) (10 + seat) _ (omega arith) wide_filled (omega arith)
      (omega (arith, limit_draws seat seat_lt, draws_le w s seat seat_lt))
      (ranged_set w (slot_at seat slot) (5 * seat + slot) _ (omega arith) s.wide (omega arith)
      (omega (arith, limit_slot (5 * seat + slot) (omega arith), refill_le)) s.ranged))

  draws_own : draws after seat ≡ draws w seat - 1
  draws_own = get_or-set_other drawn _ _ _ 0 (omega arith) ∙ get_or-set_same filled _ _ 0 (omega (arith, wide_filled))

  draws_other : (other : ℕ) → (other ≡ seat → ⊥) → other < 2 → draws after other ≡ draws w other
  draws_other other apart h =
      get_or-set_other drawn _ _ _ 0 (omega arith) ∙ (get_or-set_other filled _ _ _ 0 (omega arith) ∙ get_or-set_other w _ _ _ 0 (omega arith))

  sides_same : sides after ≡ sides w
  sides_same =
      get_or-set_other drawn _ _ _ 0 (omega arith) ∙ (get_or-set_other filled _ _ _ 0 (omega arith) ∙ get_or-set_other w _ _ _ 0 (omega arith))

  hands_change : (card : ℕ) → times card (between 52 62 after) + is_card card (at w (slot_at seat slot)) ≡ times card (between 52 62 w) + is_card card (refill w seat)
  hands_change card =
      ap (λ xs. times card xs + is_card card (at w (slot_at seat slot)))
      (between_set_apart drawn 52 62 _ _ (inr (omega arith)) ∙ between_set_apart filled 52 62 _ _ (inr (omega arith)))
      ∙ times_set card w 52 62 _ _ (omega arith) (omega arith) (omega (arith, s.wide))

  tops_change : (card : ℕ) → times card (between 65 67 after) + is_card card (at w (top_at pile)) ≡ times card (between 65 67 w) + is_card card (at w (slot_at seat slot))
  tops_change card =
      let top_was : at drawn (top_at pile) ≡ at w (top_at pile) = get_or-set_other filled _ _ _ 0 (omega arith) ∙ get_or-set_other w _ _ _ 0 (omega arith) in
      let tops_were : between 65 67 drawn ≡ between 65 67 w = between_set_apart filled 65 67 _ _ (inl (omega arith)) ∙ between_set_apart w 65 67 _ _ (inl (omega arith)) in
      ap (λ x. times card (between 65 67 after) + is_card card x) (sym top_was)
      ∙ (times_set card drawn 65 67 _ _ (omega arith) (omega arith) (omega (arith, wide_drawn)) ∙ ap (λ xs. times card xs + is_card card (at w (slot_at seat slot))) tops_were)

  -- the seat's undrawn cards lose the one that refills the slot
  drawn_change : (card : ℕ) → card < 52 → times card (undrawn after seat) + is_card card (refill w seat) ≡ times card (undrawn w seat)
  drawn_change card h =
      let count = draws_le w s seat seat_lt in
      let now_drawn : times card (undrawn after seat) ≡ times card (between (draw_end seat - (draws w seat - 1)) (draw_end seat) w) = ap (λ n. times card (between (draw_end seat - n) (draw_end seat) after)) draws_own ∙ ap (times card) (order_between w after _ (draw_end seat) order_after (omega arith)) in
      ⊎_elim
      (λ none.
      let empties : refill w seat ≡ 52 = cond-true _ _ _ (eq-eqb _ _ none) in
      let nothing : is_card card (refill w seat) ≡ 0 = ap (is_card card) empties ∙ is_other card 52 (omega arith) in
      let same : times card (between (draw_end seat - (draws w seat - 1)) (draw_end seat) w) ≡ times card (undrawn w seat) = ap (λ n. times card (between (draw_end seat - n) (draw_end seat) w)) (omega arith) in
      omega arith)
      (λ some.
      let k : ℕ = draw_end seat - draws w seat in
      let takes : refill w seat ≡ at w k = cond-false _ _ _ (ne_eqb _ _ some) in
      let step = times_step card w k (draw_end seat) (omega arith) (omega (arith, s.wide)) in
      let taken : is_card card (refill w seat) ≡ is_card card (at w k) = ap (is_card card) takes in
      let rest : times card (between (draw_end seat - (draws w seat - 1)) (draw_end seat) w) ≡ times card (between (k + 1) (draw_end seat) w) = ap (λ n. times card (between n (draw_end seat) w)) (omega arith) in
      omega arith)
      (cases_eq (draws w seat) 0)

  others_same : (card : ℕ) → times card (undrawn after (1 - seat)) ≡ times card (undrawn w (1 - seat))
  others_same card =
      ap (λ n. times card (between (draw_end (1 - seat) - n) (draw_end (1 - seat)) after)) (draws_other (1 - seat) (omega arith) (omega arith))
      ∙ ap (times card) (order_between w after _ (draw_end (1 - seat)) order_after (omega arith))

  side_same : (card e : ℕ) → e ≤ 52 → times card (between (e - sides after) e after) ≡ times card (between (e - sides w) e w)
  side_same card e h =
      ap (λ n. times card (between (e - n) e after)) sides_same ∙ ap (times card) (order_between w after _ _ order_after h)

  pub play_follows : Follows w (played w seat slot pile)
  unfolding played
  play_follows =
      record {
        wide = length-set drawn _ _ ∙ (wide_drawn ∙ sym s.wide);
        order = order_after;
        ranged = ranged_after;
        fewer = λ card h. omega (arith, in_play_sum card after seat seat_lt, in_play_sum card w seat seat_lt, hands_change card, tops_change card, drawn_change card h, others_same card, side_same card 45 (omega arith), side_same card 50 (omega arith));
        draws_fall = λ other h. ⊎_elim (λ e. omega (arith, ap (draws after) e, ap (draws w) e, draws_own)) (λ apart. omega (arith, draws_other other apart h)) (cases_eq other seat);
        sides_fall = omega (arith, sides_same);
      }

-- the sides are turned
module _ (w : State) (s : Sound w) (some : sides w ≡ 0 → ⊥) where
  abbrev left_up : State
  left_up = set w (top_at 0) (at w (45 - sides w))

  abbrev right_up : State
  right_up = set left_up (top_at 1) (at w (50 - sides w))

  abbrev lower : State
  lower = set right_up sides_at (sides w - 1)

  wide_left : length left_up ≡ 68
  wide_left = length-set w _ _ ∙ s.wide

  wide_right : length right_up ≡ 68
  wide_right = length-set left_up _ _ ∙ wide_left

  order_lower : take 52 lower ≡ take 52 w
  order_lower =
      take-set-le 52 right_up _ _ (omega arith) ∙ (take-set-le 52 left_up _ _ (omega arith) ∙ take-set-le 52 w _ _ (omega arith))

  ranged_lower : Ranged lower
  ranged_lower =
      ranged_set right_up sides_at 12 _ (omega arith) wide_right (omega arith) (omega (arith, limit_sides, sides_le w s))
      (ranged_set left_up (top_at 1) 14 _ (omega arith) wide_left (omega arith)
      (omega (arith, limit_top 1 (omega arith), card_lt w s (50 - sides w) (omega arith)))
      (ranged_set w (top_at 0) 13 _ (omega arith) s.wide (omega arith)
      (omega (arith, limit_top 0 (omega arith), card_lt w s (45 - sides w) (omega arith))) s.ranged))

  sides_lower : sides lower ≡ sides w - 1
  sides_lower = get_or-set_same right_up _ _ 0 (omega (arith, wide_right))

  draws_same : (seat : ℕ) → seat < 2 → draws lower seat ≡ draws w seat
  draws_same seat h =
      get_or-set_other right_up _ _ _ 0 (omega arith) ∙ (get_or-set_other left_up _ _ _ 0 (omega arith) ∙ get_or-set_other w _ _ _ 0 (omega arith))

  hands_same : (card : ℕ) → times card (between 52 62 lower) ≡ times card (between 52 62 w)
  hands_same card =
      ap (times card) (between_set_apart right_up 52 62 _ _ (inr (omega arith)) ∙ (between_set_apart left_up 52 62 _ _ (inr (omega arith)) ∙ between_set_apart w 52 62 _ _ (inr (omega arith))))

  undrawn_same : (card seat : ℕ) → seat < 2 → times card (undrawn lower seat) ≡ times card (undrawn w seat)
  undrawn_same card seat h =
      ap (λ n. times card (between (draw_end seat - n) (draw_end seat) lower)) (draws_same seat h)
      ∙ ap (times card) (order_between w lower _ (draw_end seat) order_lower (omega arith))

  tops_turn : (card : ℕ) → times card (between 65 67 lower) ≤ times card (between 65 67 w) + is_card card (at w (45 - sides w)) + is_card card (at w (50 - sides w))
  tops_turn card =
      let kept : times card (between 65 67 lower) ≡ times card (between 65 67 right_up) = ap (times card) (between_set_apart right_up 65 67 _ _ (inl (omega arith))) in
      omega (arith, times_set card w 65 67 (top_at 0) (at w (45 - sides w)) (omega arith) (omega arith) (omega (arith, s.wide)), times_set card left_up 65 67 (top_at 1) (at w (50 - sides w)) (omega arith) (omega arith) (omega (arith, wide_left)))

  -- each side loses the card that becomes a top
  side_turns : (card e : ℕ) → 45 ≤ e → e ≤ 50 → times card (between (e - sides lower) e lower) + is_card card (at w (e - sides w)) ≡ times card (between (e - sides w) e w)
  side_turns card e low high =
      let few = sides_le w s in
      let same : times card (between (e - sides lower) e lower) ≡ times card (between (e - sides w + 1) e w) = ap (λ n. times card (between (e - n) e lower)) sides_lower ∙ (ap (times card) (order_between w lower _ e order_lower (omega arith)) ∙ ap (λ n. times card (between n e w)) (omega arith)) in
      omega (arith, times_step card w (e - sides w) e (omega arith) (omega (arith, s.wide)))

  pub turn_follows : Follows w (turned w)
  unfolding turned
  turn_follows =
      record {
        wide = length-set right_up _ _ ∙ (wide_right ∙ sym s.wide);
        order = order_lower;
        ranged = ranged_lower;
        fewer = λ card h. omega (arith, in_play_sum card lower 0 (omega arith), in_play_sum card w 0 (omega arith), hands_same card, tops_turn card, undrawn_same card 0 (omega arith), undrawn_same card 1 (omega arith), side_turns card 45 (omega arith) (omega arith), side_turns card 50 (omega arith) (omega arith));
        draws_fall = λ seat h. omega (arith, draws_same seat h);
        sides_fall = omega (arith, sides_lower);
      }

-- the parity is written
pub flip_follows : (w : State) → Sound w → Follows w (flipped w)
flip_follows w s =
    let v : State = flipped w in
    let order : take 52 v ≡ take 52 w = take-set-le 52 w _ _ (omega arith) in
    let count : (k : ℕ) → k < 67 → at v k ≡ at w k = λ k h. get_or-set_other w _ _ _ 0 (omega arith) in
    let part : (card a e : ℕ) → e ≤ 67 → times card (between a e v) ≡ times card (between a e w) = λ card a e h. ap (times card) (between_set_apart w a e _ _ (inr h)) in
    let drawn : (card seat : ℕ) → seat < 2 → times card (undrawn v seat) ≡ times card (undrawn w seat) = λ card seat h. ap (λ n. times card (between (draw_end seat - n) (draw_end seat) v)) (count (draws_at seat) (omega arith)) ∙ part card _ (draw_end seat) (omega arith) in
    let side : (card e : ℕ) → e ≤ 50 → times card (between (e - sides v) e v) ≡ times card (between (e - sides w) e w) = λ card e h. ap (λ n. times card (between (e - n) e v)) (count 64 (omega arith)) ∙ part card _ e (omega arith) in
    record {
      wide = length-set w _ _;
      order = order;
      ranged = ranged_set w parity_at 15 _ (omega arith) s.wide (omega arith) (omega (arith, limit_parity)) s.ranged;
      fewer = λ card h. omega (arith, in_play_sum card v 0 (omega arith), in_play_sum card w 0 (omega arith), part card 52 62 (omega arith), part card 65 67 (omega arith), drawn card 0 (omega arith), drawn card 1 (omega arith), side card 45 (omega arith), side card 50 (omega arith));
      draws_fall = λ seat h. omega (arith, count (draws_at seat) (omega arith));
      sides_fall = omega (arith, count 64 (omega arith));
    }

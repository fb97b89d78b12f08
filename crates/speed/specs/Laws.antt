-- What Speed keeps, whatever is played.
use Rattle.std.specs.Prelude.{◌≡◌, ℕ, ◌<◌, ◌≤◌, List, [], ◌∷◌, take}
use Rattle.interface.specs.Games.{State}
use Rattle.speed.specs.declared.moves.Move.{Move}
use Rattle.speed.specs.Places.{empty_slot, slot_at, at, draws, sides}
use Rattle.speed.specs.Lawful.{times, in_play}
use Rattle.speed.specs.Rules.{next_state}

-- the state after frames with these moves of seats 0 and 1
abbrev pub run : State → List (Move × Move) → State
run w [] = w
run w (moves ∷ later) = run (next_state w moves.0 moves.1) later

-- a seat has none to draw and no card in hand
abbrev pub WithoutCards : State → ℕ → Type 0
WithoutCards w seat = (draws w seat ≡ 0) × ((slot : ℕ) → slot < 5 → at w (slot_at seat slot) ≡ empty_slot)

-- no seat is without cards
abbrev pub GoesOn : State → Type 0
GoesOn w = (seat : ℕ) → seat < 2 → WithoutCards w seat → ⊥

pub record Kept (before after : State) : Type 0 where
  -- the order of the pack stays
  pub same_order : take 52 after ≡ take 52 before
  -- no card is created: none is in play more often than before
  pub no_new_card : (card : ℕ) → card < 52 → times card (in_play after) ≤ times card (in_play before)
  -- draw and side counts never rise
  pub draws_fall : (seat : ℕ) → seat < 2 → draws after seat ≤ draws before seat
  pub sides_fall : sides after ≤ sides before
  -- where a seat, either one, is without cards, nothing changes any more
  pub ended : (seat : ℕ) → seat < 2 → WithoutCards before seat → after ≡ before

-- Which states are lawful: the order is a permutation, ranges are kept, and no card is in play twice.
use Rattle.std.specs.Prelude.{ℕ, zero, suc, ◌-◌, Bool, true, false, ◌&&◌, leb, List, [], ◌∷◌, ◌++◌, take, drop, replicate, count_by, nat_eq, nat_le}
use Rattle.std.specs.List.{between}
use Rattle.interface.specs.Games.{State}
use Rattle.speed.specs.Places.{draws, sides, draw_end}

-- how often a card stands in a list
unfoldable pub times : ℕ → List ℕ → ℕ
times card xs = count_by (λ x. nat_eq x card) xs

-- the test passes for each card below n
unfoldable pub each_below : ℕ → (ℕ → Bool) → Bool
each_below zero test = true
each_below (suc card) test = test card && each_below card test

-- the cards that a seat has yet to draw
abbrev pub undrawn : State → ℕ → List ℕ
undrawn w seat = between (draw_end seat - draws w seat) (draw_end seat) w

-- the cards in play: both hands, the undrawn cards, the unturned sides and the tops (an empty slot is no card)
unfoldable pub in_play : State → List ℕ
in_play w = between 52 62 w ++ (undrawn w 0 ++ (undrawn w 1 ++ (between (45 - sides w) 45 w ++ (between (50 - sides w) 50 w ++ between 65 67 w))))

-- the highest number that each word from 52 on may have: hands, draws, sides, tops, parity
unfoldable pub limits : List ℕ
limits = replicate 10 52 ++ (15 ∷ 15 ∷ 5 ∷ 51 ∷ 51 ∷ 1 ∷ [])

-- each word is within its limit
abbrev pub within : List ℕ → List ℕ → Bool
within [] ws = true
within (limit ∷ rest) [] = false
within (limit ∷ rest) (w ∷ ws) = nat_le w limit && within rest ws

-- each card of the pack stands in the order once
abbrev pub permutation : List ℕ → Bool
permutation order = each_below 52 (λ card. nat_eq (times card order) 1)

abbrev pub none_twice : List ℕ → Bool
none_twice cards = each_below 52 (λ card. leb (times card cards) 1)

unfoldable pub lawful_state : State → Bool
lawful_state w = permutation (take 52 w) && (within limits (drop 52 w) && none_twice (in_play w))

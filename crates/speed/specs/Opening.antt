-- The opening: the pack is shuffled by the seed and dealt.
use Rattle.std.specs.Prelude.{ℕ, zero, suc, ◌+◌, ◌*◌, ◌/◌, ◌%◌, ◌^◌, List, [], ◌∷◌, ◌++◌, slice_index}
use Rattle.std.specs.List.{range_with_len, between, swap}
use Rattle.interface.specs.Games.{State}

-- the generator's next number
abbrev pub stirred : ℕ → ℕ
stirred z = (1664525 * z + 1013904223) % 2 ^ 32

-- the place up to i that a number picks
abbrev pub picked : ℕ → ℕ → ℕ
picked z i = z / 65536 % (i + 1)

-- from place i down to place 1, each card is exchanged with a picked one
unfoldable pub shuffled_from : ℕ → ℕ → List ℕ → List ℕ
shuffled_from zero z order = order
shuffled_from (suc i) z order = shuffled_from i (stirred z) (swap order (suc i) (picked (stirred z) (suc i)))

-- cards 0 to 51 in order
unfoldable pub new_pack : List ℕ
new_pack = range_with_len 0 52

unfoldable pub order_of : ℕ → List ℕ
order_of seed = shuffled_from 51 seed new_pack

-- the hands are cards 30 to 34 and 35 to 39, the counts are full, the tops are cards 50 and 51, and seat 0 plays first
unfoldable pub dealt : List ℕ → State
dealt order = order ++ (between 30 40 order ++ (15 ∷ 15 ∷ 5 ∷ slice_index order 50 ∷ slice_index order 51 ∷ 0 ∷ []))

unfoldable pub opening_state : ℕ → State
opening_state seed = dealt (order_of seed)

-- Sets of cards as numbers, by which the code tests that no card stands twice: bit c is 1 where card c is in the set.
use Rattle.std.specs.Prelude.{ℕ, ◌^◌, cond, List, [], ◌∷◌, Some, None, Option, ◌==◌, bit_or, nat_lt}
use Rattle.std.specs.Int.{bit_at}

-- a set with one card more, or nothing where it was there already; numbers from 52 on are no cards
abbrev pub with_card : Option ℕ → ℕ → Option ℕ
with_card None card = None
with_card (Some seen) card = cond (nat_lt card 52) (cond (bit_at seen card == 1) None (Some (bit_or seen (2 ^ card)))) (Some seen)

-- a set with all cards of a list
abbrev pub marked : Option ℕ → List ℕ → Option ℕ
marked set [] = set
marked set (card ∷ rest) = marked (with_card set card) rest

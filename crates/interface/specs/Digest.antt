-- The digest of a state's words: the sum of (2k + 1) × word k, modulo 2^32.
use Rattle.std.specs.Prelude.{ℕ, ◌+◌, ◌*◌, ◌%◌, ◌^◌, List, [], ◌∷◌}

-- the sum of (2j + 1) × word j, where the list begins with word k
abbrev pub weighted : ℕ → List ℕ → ℕ
weighted k [] = 0
weighted k (w ∷ ws) = (2 * k + 1) * w + weighted (k + 1) ws

abbrev pub digest_of : List ℕ → ℕ
digest_of ws = weighted 0 ws % 2 ^ 32

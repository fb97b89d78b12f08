-- The bytes of a number, least first, and back from them.
use Rattle.std.proofs.Common.{◌≡◌, ℕ, zero, suc, ◌+◌, ◌*◌, ◌<◌, [], ◌∷◌, get_or, refl, arith}
use Rattle.std.proofs.lemmas.Nat.{le_bytes_2, le_bytes_4}
use Rattle.datagram.specs.Layout.{two_bytes, four_bytes}

pub two_of : (a b : ℕ) → a < 256 → b < 256 → two_bytes (a + b * 256) ≡ a ∷ b ∷ []
two_of a b fa fb = le_bytes_2 (a ∷ b ∷ []) _ refl fits refl
  where
    fits : (i : ℕ) → get_or (a ∷ b ∷ []) i 0 < 256
    fits zero = fa
    fits (suc zero) = fb
    fits (suc (suc i)) = omega arith

pub four_of : (a b c d : ℕ) → a < 256 → b < 256 → c < 256 → d < 256 → four_bytes (a + b * 256 + c * 65536 + d * 16777216) ≡ a ∷ b ∷ c ∷ d ∷ []
four_of a b c d fa fb fc fd = le_bytes_4 (a ∷ b ∷ c ∷ d ∷ []) _ refl fits refl
  where
    fits : (i : ℕ) → get_or (a ∷ b ∷ c ∷ d ∷ []) i 0 < 256
    fits zero = fa
    fits (suc zero) = fb
    fits (suc (suc zero)) = fc
    fits (suc (suc (suc zero))) = fd
    fits (suc (suc (suc (suc i)))) = omega arith

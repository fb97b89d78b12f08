-- The walls of the opening.
use Rattle.std.proofs.Common.{◌≡◌, ℕ, ◌+◌, ◌*◌, ◌/◌, ◌%◌, ◌^◌, ◌<◌, ap, ◌∙◌, arith}
use lib.Bits.{bit_and, bit_or}
use Rattle.std.proofs.lemmas.Nat.{and_mask, or_shifted}

-- a rotation by 16 exchanges the halves, and the mask clears bit 31
pub lower_walls : (seed r : ℕ) → seed < 2 ^ 32 → r ≡ bit_or (seed * 2 ^ 16 % 2 ^ 32) (seed / 2 ^ 16) → bit_and r 2147483647 ≡ (seed % 2 ^ 16 * 2 ^ 16 + seed / 2 ^ 16) % 2 ^ 31
lower_walls seed r h e =
    let high : seed * 2 ^ 16 % 2 ^ 32 ≡ seed % 2 ^ 16 * 2 ^ 16 = omega arith in
    let joined : r ≡ seed % 2 ^ 16 * 2 ^ 16 + seed / 2 ^ 16 = e ∙ ap (λ n. bit_or n (seed / 2 ^ 16)) high ∙ or_shifted (seed % 2 ^ 16) 16 (seed / 2 ^ 16) (omega arith) in
    and_mask r 31 ∙ ap (λ n. n % 2 ^ 31) joined

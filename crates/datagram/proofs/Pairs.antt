-- Codes and their bytes, two to each.
use Rattle.std.proofs.Common.{◌≡◌, ℕ, zero, suc, ◌+◌, ◌*◌, ◌/◌, ◌%◌, ◌^◌, ◌<◌, List, [], ◌∷◌, ◌++◌, length, get_or, Some, refl, ap, ap₂, arith}
use Rattle.std.specs.List.{AllByRecursion, slice_get}
use Rattle.datagram.specs.Layout.{two_bytes, code_bytes}
use Rattle.datagram.specs.Reading.{codes_of}
use Rattle.std.proofs.lemmas.Nat.{from_le_bytes-to_le_bytes_2}
use Rattle.datagram.proofs.Digits.{two_of}

pub length_codes_of : (bs : List ℕ) → length (codes_of bs) ≡ length bs / 2
length_codes_of [] = refl
length_codes_of (a ∷ []) = refl
length_codes_of (a ∷ b ∷ bs) = let ih = length_codes_of bs in omega arith

pub length_code_bytes : (cs : List ℕ) → length (code_bytes cs) ≡ 2 * length cs
length_code_bytes [] = refl
length_code_bytes (c ∷ cs) = let ih = length_code_bytes cs in omega arith

-- code k
pub nth_codes_of : (bs : List ℕ) (k : ℕ) → 2 * k + 1 < length bs → slice_get (codes_of bs) k ≡ Some (get_or bs (2 * k) 0 + get_or bs (2 * k + 1) 0 * 256)
nth_codes_of [] k h = absurd (omega arith)
nth_codes_of (a ∷ []) k h = absurd (omega arith)
nth_codes_of (a ∷ b ∷ bs) zero h = refl
nth_codes_of (a ∷ b ∷ bs) (suc k) h =
    let first : 2 * suc k ≡ suc (suc (2 * k)) = omega arith in
    let second : 2 * suc k + 1 ≡ suc (suc (2 * k + 1)) = omega arith in
    let ih = nth_codes_of bs k (omega arith) in
    rw (second, first) ih

pub code_bytes_push : (cs : List ℕ) (c : ℕ) → code_bytes (cs ++ c ∷ []) ≡ code_bytes cs ++ two_bytes c
code_bytes_push [] c = refl
code_bytes_push (d ∷ cs) c = ap (λ bs. d % 256 ∷ d / 256 % 256 ∷ bs) (code_bytes_push cs c)

-- codes that fit come back from their bytes
pub codes_of_code_bytes : (cs : List ℕ) → AllByRecursion (λ c. c < 2 ^ 16) cs → codes_of (code_bytes cs) ≡ cs
codes_of_code_bytes [] h = refl
codes_of_code_bytes (c ∷ cs) h =
    ap₂ ◌∷◌ (from_le_bytes-to_le_bytes_2 c h.0) (codes_of_code_bytes cs h.1)

-- and so do bytes, where none is left over
pub code_bytes_codes_of : (bs : List ℕ) → length bs % 2 ≡ 0 → AllByRecursion (λ b. b < 256) bs → code_bytes (codes_of bs) ≡ bs
code_bytes_codes_of [] even h = refl
code_bytes_codes_of (a ∷ []) even h = absurd (omega arith)
code_bytes_codes_of (a ∷ b ∷ bs) even h =
    ap₂ ◌++◌ (two_of a b h.0 h.1.0) (code_bytes_codes_of bs (omega arith) h.1.1)

pub codes_fit : (bs : List ℕ) → AllByRecursion (λ b. b < 256) bs → AllByRecursion (λ c. c < 2 ^ 16) (codes_of bs)
codes_fit [] h = tt
codes_fit (a ∷ []) h = tt
codes_fit (a ∷ b ∷ bs) h = (omega (arith, h.0, h.1.0), codes_fit bs h.1.1)

pub code_bytes_fit : (cs : List ℕ) → AllByRecursion (λ b. b < 256) (code_bytes cs)
code_bytes_fit [] = tt
code_bytes_fit (c ∷ cs) = (omega arith, (omega arith, code_bytes_fit cs))

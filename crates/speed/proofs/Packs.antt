-- A list of 52 numbers in which each card stands once has cards only.
use Rattle.std.proofs.Common.{◌≡◌, ℕ, zero, suc, ◌+◌, ◌<◌, ◌≤◌, cond, ltb, List, [], ◌∷◌, length, get_or, refl, ⊎_elim, arith}
use Rattle.std.proofs.lemmas.Bool.Decides.{nat_tests}
use Rattle.std.proofs.lemmas.Bool.{cases_lt}
use Rattle.speed.specs.Lawful.{times}
use Rattle.speed.proofs.Counts.{is_card, times-∷, times_none}

-- how many numbers of a list are below n
abbrev below : ℕ → List ℕ → ℕ
below n [] = 0
below n (x ∷ xs) = cond (ltb x n) 1 0 + below n xs

below_zero : (xs : List ℕ) → below 0 xs ≡ 0
below_zero [] = refl
below_zero (x ∷ xs) = let none : cond (ltb x 0) 1 0 ≤ 0 = grind (arith, nat_tests) in omega (arith, below_zero xs)

below_suc : (n : ℕ) (xs : List ℕ) → below (suc n) xs ≡ below n xs + times n xs
below_suc n [] = omega (arith, times_none n)
below_suc n (x ∷ xs) =
    let more = below_suc n xs in
    let here : cond (ltb x (suc n)) 1 0 ≡ cond (ltb x n) 1 0 + is_card n x = grind (arith, nat_tests) in
    omega (arith, times-∷ n x xs)

-- each of the numbers below n once makes n of them
below_once : (n : ℕ) (xs : List ℕ) → ((card : ℕ) → card < n → times card xs ≡ 1) → below n xs ≡ n
below_once zero xs once = below_zero xs
below_once (suc n) xs once =
    omega (arith, below_suc n xs, below_once n xs (λ card h. once card (omega arith)), once n (omega arith))

below_le : (n : ℕ) (xs : List ℕ) → below n xs ≤ length xs
below_le n [] = omega arith
below_le n (x ∷ xs) =
    let one : cond (ltb x n) 1 0 ≤ 1 = grind (arith, nat_tests) in
    omega (arith, below_le n xs)

all_below : (n : ℕ) (xs : List ℕ) (k : ℕ) → length xs ≤ below n xs → k < length xs → get_or xs k 0 < n
all_below n [] k full h = absurd (omega arith)
all_below n (x ∷ xs) zero full h =
    ⊎_elim (λ l. l) (λ g. let none : cond (ltb x n) 1 0 ≤ 0 = grind (arith, nat_tests) in absurd (omega (arith, below_le n xs))) (cases_lt x n)
all_below n (x ∷ xs) (suc k) full h =
    let one : cond (ltb x n) 1 0 ≤ 1 = grind (arith, nat_tests) in
    all_below n xs k (omega arith) (omega arith)

pub pack_below : (xs : List ℕ) (k : ℕ) → length xs ≡ 52 → ((card : ℕ) → card < 52 → times card xs ≡ 1) → k < 52 → get_or xs k 0 < 52
pack_below xs k wide once h = all_below 52 xs k (omega (arith, below_once 52 xs once)) (omega arith)

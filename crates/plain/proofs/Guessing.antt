-- What a guess rule is given.
use Rattle.std.proofs.Common.{◌≡◌, ℕ, zero, suc, ◌-◌, ◌<◌, ◌≤◌, List, [], ◌∷◌, length, get_or, take, refl, arith}
use Rattle.std.proofs.lemmas.List.{get_or_default}
use Rattle.plain.specs.Rules.{last_or}

-- the last of the first n inputs is that of frame n − 1
pub last_known : {I : Type 0} (d : I) (xs : List I) (n : ℕ) → 0 < n → n ≤ length xs → last_or d (take n xs) ≡ get_or xs (n - 1) d
last_known d xs zero a b = absurd (omega arith)
last_known d [] (suc n) a b = absurd (omega arith)
last_known d (x ∷ xs) (suc zero) a b = refl
last_known d (x ∷ xs) (suc (suc n)) a b = let rest = last_known x xs (suc n) in grind (arith, get_or_default)

-- What `slice_get` reads of a list that was made from others.
use Rattle.std.proofs.Common.{◌≡◌, ℕ, suc, ◌+◌, ◌<◌, ◌≤◌, List, [], ◌∷◌, ◌++◌, length, take, drop, set, Some, None, refl, arith}
use Rattle.std.specs.List.{slice_get}
use Rattle.std.proofs.lemmas.Grind.{common_steps}
use Rattle.std.proofs.lemmas.Option.{gets}

module _ {X : Type 0} where
  pub slice_get-set_same : (xs : List X) (i : ℕ) (x : X) → i < length xs → slice_get (set xs i x) i ≡ Some x
  slice_get-set_same xs i x h = grind (arith, common_steps, gets)

  pub slice_get-set_other : (xs : List X) (i k : ℕ) (x : X) → (k ≡ i → ⊥) → slice_get (set xs i x) k ≡ slice_get xs k
  slice_get-set_other xs i k x ne = grind (arith, common_steps, gets)

  pub slice_get-take : (n : ℕ) (xs : List X) (k : ℕ) → k < n → slice_get (take n xs) k ≡ slice_get xs k
  slice_get-take n xs k h = grind (arith, common_steps, gets)

  -- past the end of a front
  pub slice_get-take_past : (n : ℕ) (xs : List X) (k : ℕ) → n ≤ k → slice_get (take n xs) k ≡ None
  slice_get-take_past n xs k h = grind (arith, common_steps, gets)

  pub slice_get-drop : (n : ℕ) (xs : List X) (k : ℕ) → slice_get (drop n xs) k ≡ slice_get xs (n + k)
  slice_get-drop n xs k = grind (arith, common_steps, gets)

  pub slice_get_append_left : (xs ys : List X) (k : ℕ) → k < length xs → slice_get (xs ++ ys) k ≡ slice_get xs k
  slice_get_append_left xs ys k h = grind (arith, common_steps, gets)

  pub slice_get-append-add : (xs ys : List X) (k : ℕ) → slice_get (xs ++ ys) (length xs + k) ≡ slice_get ys k
  slice_get-append-add xs ys k = grind (arith, common_steps, gets)

  -- two lists that read the same everywhere are one
  pub ext_slice_get : (xs ys : List X) → ((k : ℕ) → slice_get xs k ≡ slice_get ys k) → xs ≡ ys
  ext_slice_get [] [] h = refl
  ext_slice_get [] (y ∷ ys) h = let e = h 0 in cc
  ext_slice_get (x ∷ xs) [] h = let e = h 0 in cc
  ext_slice_get (x ∷ xs) (y ∷ ys) h = let e = h 0 in let rest = ext_slice_get xs ys (λ k. h (suc k)) in cc

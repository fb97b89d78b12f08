-- What `slice_get` tells of a list.
use Rattle.std.proofs.Common.{◌≡◌, ℕ, ◌+◌, List, ◌∷◌, drop, Some, arith}
use Rattle.std.specs.List.{slice_get}
use Rattle.std.proofs.lemmas.Option.{gets}
use Rattle.std.proofs.lemmas.List.{drop_more}

module _ {X : Type 0} where
  -- what is left of a list from a place that reads
  pub drop_from_slice_get : (xs : List X) (k : ℕ) (x : X) → slice_get xs k ≡ Some x → drop k xs ≡ x ∷ drop (k + 1) xs
  drop_from_slice_get xs k x e = grind (arith, gets, drop_more)

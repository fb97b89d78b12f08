-- Going back among kept states.
use Rattle.std.proofs.Common.{◌≡◌, ℕ, zero, suc, ◌+◌, ◌-◌, ◌<◌, List, ◌∷◌, map, drop, Some, sym, ap, ◌∙◌, arith}
use Rattle.std.specs.List.{slice_get}
use Rattle.std.proofs.lemmas.List.{drop-map, length-map}
use Rattle.std.proofs.lemmas.Option.{slice_get_within}
use Rattle.interface.proofs.Places.{drop_from_slice_get}
use Rattle.interface.proofs.Reach.{back_drops}
use Rattle.interface.specs.Games.{State}
use Rattle.interface.specs.Keepers.{back}

module _ {G : Type 0} (words : G → State) where
  -- the state n back is the newest of what is left
  pub kept_back : (s : State) (gs : List G) (n : ℕ) (g : G) → 0 < n → slice_get gs (n - 1) ≡ Some g → words g ∷ map words (drop n gs) ≡ back n (s ∷ map words gs)
  kept_back s gs zero g some e = absurd (omega arith)
  kept_back s gs (suc m) g some e =
      let same : suc m - 1 ≡ m = omega arith in
      let there : slice_get gs m ≡ Some g = ap (slice_get gs) (sym same) ∙ e in
      let one : m + 1 ≡ suc m = omega arith in
      let split : drop m gs ≡ g ∷ drop (suc m) gs = drop_from_slice_get gs m g there ∙ ap (λ k. g ∷ drop k gs) one in
      let inside = slice_get_within gs m g there in
      let long = length-map gs words in
      sym (back_drops (suc m) (s ∷ map words gs) (omega arith) ∙ drop-map words m gs ∙ ap (map words) split)

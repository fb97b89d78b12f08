-- What the two keepers keep.
use Rattle.std.specs.Prelude.{ℕ, suc, ◌<◌, ◌≤◌, List, [], ◌∷◌, map, length, Some, None, Option}
use Rattle.std.proofs.Common.{arith}
use Rattle.std.proofs.lemmas.List.{length-map}
use Rattle.interface.specs.Games.{State}
use Rattle.interface.specs.Keepers.{Kept}
use Rattle.keepers.specs.declared.ring.Ring.{Ring}
use Rattle.keepers.specs.Rings.{items, items_few}

-- by snapshots: the newest state and those in the ring
abbrev pub kept_by_snapshots : {G : Type 0} → (G → State) → G → Ring G → Kept
kept_by_snapshots words game before =
    record {
      states = words game ∷ map words (items before);
      some = omega arith;
      few = let h = items_few before in let l = length-map (items before) words in omega arith;
    }

-- a state, and those before it by one trail after another, for as long as undoing succeeds
abbrev pub reached : (State → List ℕ → Option State) → Option State → List (List ℕ) → List State
reached undone None ts = []
reached undone (Some s) [] = s ∷ []
reached undone (Some s) (t ∷ ts) = s ∷ reached undone (undone s t) ts

-- these are one at least
pub reached_some : (undone : State → List ℕ → Option State) (s : State) (ts : List (List ℕ)) → 0 < length (reached undone (Some s) ts)
reached_some undone s [] = omega arith
reached_some undone s (t ∷ ts) = omega arith

-- and at most one more than the trails
pub reached_few : (undone : State → List ℕ → Option State) (o : Option State) (ts : List (List ℕ)) → length (reached undone o ts) ≤ suc (length ts)
reached_few undone None ts = omega arith
reached_few undone (Some s) [] = omega arith
reached_few undone (Some s) (t ∷ ts) = let h = reached_few undone (undone s t) ts in omega arith

-- by trails: what the ring's trails lead back to
abbrev pub kept_by_trails : (State → List ℕ → Option State) → State → Ring (List ℕ) → Kept
kept_by_trails undone newest trails =
    record {
      states = reached undone (Some newest) (items trails);
      some = reached_some undone newest (items trails);
      few = let h = reached_few undone (Some newest) (items trails) in let l = items_few trails in omega arith;
    }

-- What a ring of eight places means: a list, newest first.
use Rattle.std.specs.Prelude.{ℕ, ◌≤◌, List, ◌++◌, length, take, drop}
use Rattle.std.proofs.Common.{arith, length-take}
use Rattle.keepers.specs.declared.ring.Ring.{Ring}

-- as many places as are in use, from the newest's on and around
abbrev pub around : {T : Type 0} → List T → ℕ → ℕ → List T
around places newest count = take count (drop newest places ++ take newest places)

abbrev pub items : {T : Type 0} → Ring T → List T
items r = around r.places r.newest r.count

-- they are eight at most
pub items_few : {T : Type 0} (r : Ring T) → length (items r) ≤ 8
items_few r = let few = r.few in simp length-take (omega arith)

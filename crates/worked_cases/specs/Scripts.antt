-- What a script of frames and goings back makes of the states that a keeper lists: the same for every keeper.
use Rattle.std.specs.Prelude.{◌≡◌, ℕ, ◌<◌, cond, List, [], ◌∷◌, length, drop, Some, None, Option, nat_lt}
use Rattle.std.specs.List.{slice_get}
use Rattle.interface.specs.Digest.{digest_of}
use Rattle.interface.specs.Games.{State}
use Rattle.interface.specs.Keepers.{newest, advanced}
use Rattle.keepers.specs.Replaying.{repeated}
use Rattle.worked_cases.specs.declared.keeper_scripts.Move.{Move}
use Rattle.worked_cases.specs.declared.keeper_scripts.Move.TheVariants.{Ahead, Again}

-- the states listed after a move
abbrev pub moved : {I : Type 0} → (State → I → I → State) → Move I → List State → List State
moved next (Ahead a b) ss = advanced next ss a b
moved next (Again n a b) ss = cond (nat_lt n (length ss)) (repeated next n a b (drop n ss)) ss

-- the digest of the state that a move steps or goes back to, or nothing where it is refused
abbrev pub seen : {I : Type 0} → (State → I → I → State) → Move I → List State → Option ℕ
seen next (Ahead a b) ss = Some (digest_of (newest (advanced next ss a b)))
seen next (Again n a b) ss = cond (nat_lt n (length ss)) (Some (digest_of (newest (drop n ss)))) None

-- the first n words of two states are the same
abbrev pub SameFront : ℕ → State → State → Type 0
SameFront n s t = (k : ℕ) → k < n → slice_get s k ≡ slice_get t k

-- the states listed after a script, oldest move first
abbrev pub scripted : {I : Type 0} → (State → I → I → State) → List State → List (Move I) → List State
scripted next ss [] = ss
scripted next ss (m ∷ ms) = scripted next (moved next m ss) ms

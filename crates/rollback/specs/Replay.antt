-- Stepping a keeper through frames, and the digests that this leaves.
use Rattle.std.specs.Prelude.{ℕ, zero, suc, ◌+◌, ◌%◌, Bool, List, slice_set}
use Rattle.interface.specs.Digest.{digest_of}
use Rattle.interface.specs.Games.{State}
use Rattle.interface.specs.Keepers.{newest, advanced}
use Rattle.interface.specs.Limits.{queue_slots}
use Rattle.rollback.specs.Inputs.{Setting, Inputs, pair_at, in_order}

-- what a keeper lists, and the slots of the digests
pub record KeptStates : Type 0 where
  pub states : List State
  pub digests : List ℕ

abbrev pub kept_states : List State → List ℕ → KeptStates
kept_states ss ds = record { states = ss; digests = ds }

module _ {I : Type 0} (g : Setting I) where
  -- the states after frame f
  abbrev pub stepped_at : Bool → Inputs I → ℕ → List State → List State
  stepped_at seat q f ss = let p = in_order seat (pair_at g q f) in advanced g.next ss p.0 p.1

  -- frame f, with the digest of the state after it put for frame f + 1
  unfoldable pub frame_at : Bool → Inputs I → ℕ → KeptStates → KeptStates
  frame_at seat q f k = let ss = stepped_at seat q f k.states in record { states = ss; digests = slice_set k.digests ((f + 1) % queue_slots) (digest_of (newest ss)) }

  -- n frames from f on
  unfoldable pub frames_from : Bool → Inputs I → ℕ → ℕ → KeptStates → KeptStates
  frames_from seat q f zero k = k
  frames_from seat q f (suc n) k = frames_from seat q (f + 1) n (frame_at seat q f k)

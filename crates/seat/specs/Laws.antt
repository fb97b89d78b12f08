-- Laws of a seat's calls: what a refused call leaves, what a send sends, and what a take replays.
use Rattle.std.specs.Prelude.{◌≡◌, ℕ, ◌+◌, ◌-◌, ◌<◌, ◌≤◌, length, Some, ◌≢◌}
use Rattle.std.specs.List.{slice_get}
use Rattle.frames.specs.Queue.{held}
use Rattle.interface.specs.Answers.{accepted, accepted_and_parted}
use Rattle.rollback.specs.Inputs.{Setting, input_at, other_at}
use Rattle.seat.specs.Views.{View, inputs, confirmed}
use Rattle.seat.specs.Calls.{to_send}

-- an answer that does not accept
abbrev pub Refused : ℕ → Type 0
Refused code = (code ≢ accepted) × (code ≢ accepted_and_parted)

-- a send from v puts nothing into its datagram that v does not hold
pub record SendsHeld {I : Type 0} (g : Setting I) (v : View I) : Type 0 where
  -- its digest is held for C
  pub digest : held v.digests (v.played + 1) (confirmed v) ≡ Some (to_send g v).digest
  -- it has a code for each frame from A to P − 1, that of the own input held for the frame
  pub count : v.acknowledged + length (to_send g v).codes ≡ v.played
  pub codes : (f : ℕ) → v.acknowledged ≤ f → f < v.played → (x : I) × (held v.own v.played f ≡ Some x) × (slice_get (to_send g v).codes (f - v.acknowledged) ≡ Some (g.code x))

-- a take from v to w that replays n frames: P less the lowest frame whose other input, known or guessed, is another than
-- before, and 0 where none is
pub record Replays {I : Type 0} (g : Setting I) (v w : View I) (n : ℕ) : Type 0 where
  pub within : n ≤ v.played
  -- no frame is replayed whose other input was known
  pub unknown : n ≤ v.played - v.known
  -- the first frame replayed has another input than before
  pub starts_at_a_change : 0 < n → g.code (other_at g (inputs v) (v.played - n)) ≢ g.code (other_at g (inputs w) (v.played - n))
  -- every unknown frame below it has the same
  pub no_change_below : (f : ℕ) → v.known ≤ f → f < v.played - n → g.code (other_at g (inputs v) f) ≡ g.code (other_at g (inputs w) f)
  -- and what was known stays, as far as it is still held
  pub known_stays : (f : ℕ) → f < v.known → w.known ≤ f + 32 → input_at g w.others w.known f ≡ input_at g v.others v.known f
  -- no count is lowered
  pub known_grows : v.known ≤ w.known
  pub acknowledged_grows : v.acknowledged ≤ w.acknowledged

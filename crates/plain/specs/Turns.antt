-- What happened in a list of turns: which of them were accepted, and what they did.
use Rattle.std.specs.Prelude.{◌≡◌, ℕ, ◌<◌, Bool, ◌⊎◌, List, length, take, Some}
use Rattle.std.specs.List.{slice_get}
use Rattle.interface.specs.Answers.{accepted}
use Rattle.plain.specs.Rules.{Rules}
use Rattle.plain.specs.Match.{Turn, Lent, Press, Send, Take, other, turn, seat_number, answer, run}

module _ {S I : Type 0} where
  -- turn i of the list is t, and was answered 0
  abbrev pub Accepted : Rules S I → List Turn → ℕ → Turn → Type 0
  Accepted r ts i t = (slice_get ts i ≡ Some t) × (answer r (run r (take i ts)) t ≡ accepted)

-- turn i is an accepted press of seat s
pub record Presses {S I : Type 0} (r : Rules S I) (ts : List Turn) (s : Bool) (i : ℕ) : Type 0 where
  pub code : ℕ
  pub lent : Lent
  pub is : Accepted r ts i (turn (seat_number s) lent (Press code))

-- turn i is an accepted send of seat s, and its datagram has the number k
pub record Sends {S I : Type 0} (r : Rules S I) (ts : List Turn) (s : Bool) (i k : ℕ) : Type 0 where
  pub records : ℕ
  pub lent : Lent
  pub is : Accepted r ts i (turn (seat_number s) lent (Send records))
  pub numbered : k ≡ length (run r (take i ts)).notes

-- turn i is an accepted take of datagram k by seat s
pub record Takes {S I : Type 0} (r : Rules S I) (ts : List Turn) (s : Bool) (i k : ℕ) : Type 0 where
  pub records : ℕ
  pub lent : Lent
  pub is : Accepted r ts i (turn (seat_number s) lent (Take k records))

-- seat s has accepted a datagram that the other sent after its last accepted press
pub record HasTheLatest {S I : Type 0} (r : Rules S I) (ts : List Turn) (s : Bool) : Type 0 where
  pub datagram : ℕ
  pub sent_at : ℕ
  pub taken_at : ℕ
  pub was_sent : Sends r ts (other s) sent_at datagram
  pub was_taken : Takes r ts s taken_at datagram
  pub after_every_press : (i : ℕ) → Presses r ts (other s) i → i < sent_at

-- so it has, or the other has pressed nothing that was accepted
abbrev pub CaughtUp : {S I : Type 0} → Rules S I → List Turn → Bool → Type 0
CaughtUp r ts s = HasTheLatest r ts s ⊎ ((i : ℕ) → Presses r ts (other s) i → ⊥)

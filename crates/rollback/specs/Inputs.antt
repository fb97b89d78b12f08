-- The inputs that a seat plays a frame with: its own, and the other's as far as it is known, else guessed.
use Rattle.std.specs.Prelude.{ℕ, zero, suc, ◌+◌, ◌-◌, ◌%◌, max, Bool, cond, List, length, Option, nat_lt, slice_index, slice_set}
use Rattle.std.specs.Option.{unwrap_or}
use Rattle.interface.specs.Games.{State}
use Rattle.interface.specs.Limits.{queue_slots}
use Rattle.frames.specs.Queue.{held}
use Rattle.plain.specs.States.{first_difference}

-- what a seat plays by: the game, its input kind and the guess rule
pub record Setting (I : Type 0) : Type 0 where
  -- the state after a frame, from the inputs of seat 0 and of seat 1
  pub next : State → I → I → State
  pub idle : I
  pub reads : ℕ → Option I
  pub code : I → ℕ
  -- the guess from the last known input and the gap
  pub guessed : I → ℕ → I

abbrev pub setting : {I : Type 0} → (State → I → I → State) → I → (ℕ → Option I) → (I → ℕ) → (I → ℕ → I) → Setting I
setting next idle reads code guessed = record { next = next; idle = idle; reads = reads; code = code; guessed = guessed }

-- the inputs that a seat holds, in its slots
pub record Inputs (I : Type 0) : Type 0 where
  pub own : List I
  -- P: the frame that comes next
  pub played : ℕ
  pub others : List I
  -- R: the first frame whose other input is not known
  pub known : ℕ

-- the input that codes from a start frame on have for a frame, or idle where they have none
abbrev pub sent : {I : Type 0} → (ℕ → Option I) → I → List ℕ → ℕ → ℕ → I
sent reads idle codes start f = unwrap_or (reads (slice_index codes (f - start))) idle

module _ {I : Type 0} (g : Setting I) where
  -- the input of a frame, or idle where it is not held
  abbrev pub input_at : List I → ℕ → ℕ → I
  input_at slots next f = unwrap_or (held slots next f) g.idle

  -- the other seat's input for a frame: known below R, and from R on the guess from the last known
  abbrev pub other_at : Inputs I → ℕ → I
  other_at q f = cond (nat_lt f q.known) (input_at q.others q.known f) (g.guessed (input_at q.others q.known (q.known - 1)) (f + 1 - q.known))

  -- both inputs of a frame, own first
  abbrev pub pair_at : Inputs I → ℕ → I × I
  pair_at q f = (input_at q.own q.played f, other_at q f)

  -- the input that a datagram's codes have for a frame
  abbrev pub sent_at : List ℕ → ℕ → ℕ → I
  sent_at = sent g.reads g.idle

-- a pair with own first, in the order of the seats; the seat is true for seat 1
abbrev pub in_order : {I : Type 0} → Bool → I × I → I × I
in_order seat p = cond seat (p.1, p.0) p

-- n frames from k on, put into their slots
abbrev pub put_all : {I : Type 0} → List I → ℕ → ℕ → (ℕ → I) → List I
put_all slots k zero f = slots
put_all slots k (suc n) f = put_all (slice_set slots (k % queue_slots) (f k)) (k + 1) n f

module _ {I : Type 0} (g : Setting I) where
  -- what is held once the codes of a datagram are kept: those for frames from R on
  abbrev pub caught_up : Inputs I → List ℕ → ℕ → Inputs I
  caught_up q codes start = record {
    own = q.own;
    played = q.played;
    others = put_all q.others q.known (start + length codes - q.known) (sent_at g codes start);
    known = max q.known (start + length codes);
  }

  -- the lowest frame from R to P − 1 whose other input is not what it was; no lower one than P where none is
  abbrev pub lowest_change : Inputs I → Inputs I → ℕ
  lowest_change q fresh = first_difference (λ f. g.code (other_at g q f)) (λ f. g.code (other_at g fresh f)) q.known (q.played - q.known)

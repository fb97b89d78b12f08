-- What a match is played by: one game, its input kind, and the guess rule of each seat.
use Rattle.std.specs.Prelude.{◌≡◌, ℕ, ◌^◌, ◌<◌, Bool, cond, Some, Option}
use Rattle.interface.specs.Games.{State}
use Rattle.plain.specs.Rules.{Rules, by_rules}
use Rattle.rollback.specs.Inputs.{Setting, setting}

pub record Setup (I : Type 0) : Type 0 where
  -- state 0
  pub opening : State
  -- the state after a frame, from the inputs of seat 0 and of seat 1
  pub next : State → I → I → State
  pub idle : I
  pub reads : ℕ → Option I
  pub code : I → ℕ
  -- the guess of each seat from the last known input and the gap
  pub guessed_0 : I → ℕ → I
  pub guessed_1 : I → ℕ → I

module _ {I : Type 0} where
  abbrev pub setup : State → (State → I → I → State) → I → (ℕ → Option I) → (I → ℕ) → (I → ℕ → I) → (I → ℕ → I) → Setup I
  setup opening next idle reads code guessed_0 guessed_1 = record { opening = opening; next = next; idle = idle; reads = reads; code = code; guessed_0 = guessed_0; guessed_1 = guessed_1 }

  -- what the plain match is played by
  abbrev pub rules : Setup I → Rules State I
  rules a = record { opening = a.opening; next = a.next; idle = a.idle; reads = a.reads; code = a.code; predict = by_rules a.idle a.guessed_0 a.guessed_1 }

  -- what a seat plays by
  abbrev pub setting_of : Setup I → Bool → Setting I
  setting_of a s = setting a.next a.idle a.reads a.code (cond s a.guessed_1 a.guessed_0)

-- the laws of an input kind that a match rests on
pub record Lawful {I : Type 0} (a : Setup I) : Type 0 where
  -- a code has 16 bits
  pub fits : (x : I) → a.code x < 2 ^ 16
  -- and reads back to its input
  pub reads_back : (x : I) → a.reads (a.code x) ≡ Some x

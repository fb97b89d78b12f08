-- What a plain match is played by: the game's rules, and what each seat predicts of the other.
-- Everything in this crate holds for all states S and all inputs I.
-- A seat is a Bool: false is seat 0, true is seat 1.
use Rattle.std.specs.Prelude.{◌≡◌, ℕ, Bool, cond, List, [], ◌∷◌, Some, Option}

pub record Rules (S I : Type 0) : Type 0 where
  -- state 0
  pub opening : S
  -- the state after a frame, from the inputs of seat 0 and of seat 1
  pub next : S → I → I → S
  -- the input that does nothing
  pub idle : I
  -- the input that a code stands for, or nothing
  pub reads : ℕ → Option I
  -- the code of an input
  pub code : I → ℕ
  -- what a seat predicts of the other's input: from the other's known inputs, oldest first, and the gap to the frame
  pub predict : Bool → List I → ℕ → I

-- an input's code reads back to it, so two inputs with one code are one input
abbrev pub ReadsBack : {S I : Type 0} → Rules S I → Type 0
ReadsBack {S} {I} r = (x : I) → r.reads (r.code x) ≡ Some x

-- the last of a list, or a given value where the list is empty
abbrev pub last_or : {I : Type 0} → I → List I → I
last_or d [] = d
last_or d (x ∷ xs) = last_or x xs

-- the prediction that a guess rule makes: by the last known input, which is idle where none is known, and the gap
abbrev pub by_rule : {I : Type 0} → I → (I → ℕ → I) → List I → ℕ → I
by_rule idle guessed known gap = guessed (last_or idle known) gap

-- the predictions of both seats, by the rule of seat 0 and that of seat 1
abbrev pub by_rules : {I : Type 0} → I → (I → ℕ → I) → (I → ℕ → I) → Bool → List I → ℕ → I
by_rules idle guessed_0 guessed_1 s = by_rule idle (cond s guessed_1 guessed_0)

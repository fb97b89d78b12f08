-- The states of a plain match: those that a seat has by what it knows and predicts, and the true ones.
use Rattle.std.specs.Prelude.{ℕ, zero, suc, ◌+◌, ◌-◌, Bool, true, false, cond, List, [], ◌∷◌, take, ◌==◌, nat_lt, slice_index_or}
use Rattle.interface.specs.Limits.{most_listed}
use Rattle.plain.specs.Rules.{Rules}
use Rattle.plain.specs.Match.{Plain, Turn, other, side, played, known, acting, after}

-- the inputs of the other seat that a seat knows, oldest first
abbrev pub known_inputs : {I : Type 0} → Plain I → Bool → List I
known_inputs p s = take (known p s) (side p (other s)).inputs

module _ {S I : Type 0} where
  -- the opening stepped through frames 0 to n − 1, with an input of each seat for each frame
  abbrev pub walk : Rules S I → (ℕ → I) → (ℕ → I) → ℕ → S
  walk r f g zero = r.opening
  walk r f g (suc n) = r.next (walk r f g n) (f n) (g n)

  -- the input that a seat pressed for a frame
  abbrev pub true_input : Rules S I → Plain I → Bool → ℕ → I
  true_input r p s f = slice_index_or (side p s).inputs f r.idle

  -- the other seat's input for a frame, as a seat has it: known below R, and predicted from R on
  abbrev pub other_input : Rules S I → Plain I → Bool → ℕ → I
  other_input r p s f = cond (nat_lt f (known p s)) (true_input r p (other s) f) (r.predict s (known_inputs p s) (f + 1 - known p s))

  -- a seat's plain state n: the opening stepped through its own true inputs and the other's as it has them
  abbrev pub plain_state : Rules S I → Plain I → Bool → ℕ → S
  plain_state r p false = walk r (true_input r p false) (other_input r p false)
  plain_state r p true = walk r (other_input r p true) (true_input r p true)

  -- the true state n: the opening stepped through the true inputs of both
  abbrev pub truth : Rules S I → Plain I → ℕ → S
  truth r p = walk r (true_input r p false) (true_input r p true)

  -- a frame of a seat, by its own input and the other's
  abbrev pub stepped : Rules S I → Bool → S → I → I → S
  stepped r false x own others = r.next x own others
  stepped r true x own others = r.next x others own

-- the values of f from n down to 0
abbrev pub down_from : {X : Type 0} → (ℕ → X) → ℕ → List X
down_from f zero = f zero ∷ []
down_from f (suc n) = f (suc n) ∷ down_from f n

-- the first of n frames from k on at which f and g differ, or k + n where none does
abbrev pub first_difference : (ℕ → ℕ) → (ℕ → ℕ) → ℕ → ℕ → ℕ
first_difference f g k zero = k
first_difference f g k (suc n) = cond (f k == g k) (first_difference f g (k + 1) n) k

module _ {S I : Type 0} where
  -- the plain states that a seat lists: from P down, nine or all
  abbrev pub listed : Rules S I → Plain I → Bool → List S
  listed r p s = take most_listed (down_from (plain_state r p s) (played p s))

  -- the lowest frame below P for which a seat has another input of the other seat in q than in p, or P where none is
  abbrev pub lowest_change : Rules S I → Plain I → Plain I → Bool → ℕ
  lowest_change r p q s = first_difference (λ f. r.code (other_input r p s f)) (λ f. r.code (other_input r q s f)) 0 (played p s)

  -- the frames that a turn has its seat replay: P less that frame, so 0 where no input changes
  abbrev pub replayed : Rules S I → Plain I → Turn → ℕ
  replayed r p t = played p (acting t) - lowest_change r p (after r p t) (acting t)

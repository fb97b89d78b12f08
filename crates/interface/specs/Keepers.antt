-- What a rollback keeper means: the states that it can go back to. And what its calls make of them.
use Rattle.std.specs.Prelude.{ℕ, ◌<◌, ◌≤◌, cond, List, [], ◌∷◌, length, take, drop, Ok, Err, Result, nat_lt}
use Rattle.interface.specs.declared.answers.Refusal.{Refusal}
use Rattle.interface.specs.declared.answers.Refusal.TheVariants.{OutOfReach}
use Rattle.interface.specs.declared.debt.Debt.{Debt}
use Rattle.interface.specs.Games.{State}
use Rattle.interface.specs.Limits.{most_listed}

-- what a keeper keeps: one to nine states, newest first
pub record Kept : Type 0 where
  pub states : List State
  pub some : 0 < length states
  pub few : length states ≤ most_listed

-- the newest state of a list; a keeper's list is never empty
abbrev pub newest : List State → State
newest [] = []
newest (s ∷ ss) = s

-- a step ahead: the next state in front, and the first nine kept
abbrev pub advanced : {I : Type 0} → (State → I → I → State) → List State → I → I → List State
advanced next ss a b = take most_listed (next (newest ss) a b ∷ ss)

-- a step for each pair of inputs
abbrev pub replayed : {I : Type 0} → (State → I → I → State) → List State → List (I × I) → List State
replayed next ss [] = ss
replayed next ss (p ∷ ps) = replayed next (advanced next ss p.0 p.1) ps

-- going back hands out a debt where more states are listed than it drops, else 15
abbrev pub back_answer : ℕ → List State → Result Debt Refusal
back_answer n ss = cond (nat_lt n (length ss)) (Ok (record { owed = n })) (Err OutOfReach)

-- and leaves the older ones, or all
abbrev pub back : ℕ → List State → List State
back n ss = cond (nat_lt n (length ss)) (drop n ss) ss

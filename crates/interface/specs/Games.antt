-- What the calls of a game answer, and what they leave, by its meaning.
use Rattle.std.specs.Prelude.{ℕ, Bool, cond, List, Some, None, Ok, Err, Option, Result}
use Rattle.interface.specs.declared.answers.Refusal.{Refusal}
use Rattle.interface.specs.declared.answers.Refusal.TheVariants.{Unlawful}

-- a state: the words of a game
abbrev pub State : Type 0
State = List ℕ

-- accepted where there is a new state, else 16
abbrev pub or_unlawful : Option State → Result (Unit {0}) Refusal
or_unlawful None = Err Unlawful
or_unlawful (Some s) = Ok tt

-- the new state, or the old one where there is none
abbrev pub or_kept : Option State → State → State
or_kept None old = old
or_kept (Some s) old = s

-- the state itself if it is lawful
abbrev pub if_lawful : (State → Bool) → State → Option State
if_lawful lawful s = cond (lawful s) (Some s) None

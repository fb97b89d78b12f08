-- What every call of a match does.
use Rattle.std.specs.Prelude.{◌≡◌, ℕ}
use Rattle.refine.specs.Setup.{Setup}
use Rattle.refine.specs.Memory.{Memory}
use Rattle.refine.specs.Outcomes.{Call, Outcome, result}
use Rattle.refine.specs.Standing.{KeepsStanding}

-- a call by number n, brought b, that left o
pub record Does {I : Type 0} (a : Setup I) (b : Memory I) (n : ℕ) (c : Call) (o : Outcome I) : Type 0 where
  -- its answer and all that it leaves, refused or not
  pub leaves : o ≡ result a b n c
  -- whatever turns came before, a match that stands still stands, and is answered as the plain match answers
  pub standing : KeepsStanding a b n c o

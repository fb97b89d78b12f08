-- A call by the name that a turn has for it.
use Rattle.std.proofs.Common.{◌≡◌, ℕ, sym, subst}
use Rattle.refine.specs.Setup.{Setup}
use Rattle.refine.specs.Memory.{Memory}
use Rattle.refine.specs.Outcomes.{Outcome}
use Rattle.match_engine.specs.Calls.{Does}
use Rattle.play.specs.declared.turns.Call.{Call}
use Rattle.play.specs.Turns.{call_of}

pub does_as : {I : Type 0} (a : Setup I) (b : Memory I) (n : ℕ) (c c' : Call) (o : Outcome I) → c ≡ c' → Does a b n (call_of c') o → Does a b n (call_of c) o
does_as a b n c c' o e d = subst (λ k. Does a b n (call_of k) o) (sym e) d

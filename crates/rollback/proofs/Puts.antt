-- What may be put into a queue.
use Rattle.std.proofs.Common.{◌≡◌, ℕ, ◌+◌, ◌≤◌, max, Bool, true, List, length, ap, ◌∙◌, arith}
use Rattle.std.proofs.lemmas.Bool.Decides.{nat_tests}
use Rattle.frames.specs.Queue.{may_put, next_after}

pub may_from : {T : Type 0} (slots : List T) (next f : ℕ) → length slots ≡ 32 → f ≤ next → next ≤ f + 32 → f ≤ 65535 → may_put slots next f ≡ true
may_from slots next f long low near top = grind (arith, nat_tests)

-- the next frame after a put of frame f + 1
pub next_from : (next next' f : ℕ) (may : Bool) → may ≡ true → next' ≡ next_after may next (f + 1) → next' ≡ max next (f + 2)
next_from next next' f may allowed e = e ∙ ap (λ b. next_after b next (f + 1)) allowed ∙ omega arith

-- and after a put of the next frame itself
pub next_one : (next next' f : ℕ) (may : Bool) → next ≡ f → may ≡ true → next' ≡ next_after may next f → next' ≡ f + 1
next_one next next' f may at allowed e = e ∙ ap (λ b. next_after b next f) allowed ∙ omega arith

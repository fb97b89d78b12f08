-- What a queue reads, and what a put leaves.
use Rattle.std.proofs.Common.{◌≡◌, ℕ, ◌+◌, ◌%◌, ◌<◌, ◌≤◌, max, List, length, set, ⊎_elim, arith, length-set}
use Rattle.std.proofs.lemmas.Bool.{cases_eq, cases_Bool}
use Rattle.std.proofs.lemmas.Bool.Decides.{nat_tests}
use Rattle.interface.proofs.Slots.{slice_get-set_same, slice_get-set_other}
use Rattle.frames.specs.Queue.{in_reach, held, read_after}

-- what each frame reads after a put
pub held_after : {T : Type 0} (slots : List T) (next frame : ℕ) (x : T) (after : ℕ) → after ≡ max next (frame + 1) → length slots ≡ 32 → frame ≤ next → next ≤ frame + 32 → (f : ℕ) → held (set slots (frame % 32) x) after f ≡ read_after (held slots next) after frame x f
held_after slots next frame x after e long below near f =
    let longer = length-set slots (frame % 32) x in
    let inside : frame % 32 < length slots = omega arith in
    let above : frame < after = omega arith in
    let grown : (next ≤ after) × (after ≤ frame + 32) = (omega arith, omega arith) in
    let little : after ≤ next + 1 = omega arith in
    ⊎_elim
    (λ same. let here = slice_get-set_same slots (frame % 32) x inside in let at : f % 32 ≡ frame % 32 = omega arith in grind (arith, nat_tests))
    (λ apart. ⊎_elim
    (λ reach. let there = slice_get-set_other slots (frame % 32) (f % 32) x (λ e. grind (arith, nat_tests)) in grind (arith, nat_tests))
    (λ gone. grind (arith, nat_tests))
    (cases_Bool (in_reach after f)))
    (cases_eq f frame)

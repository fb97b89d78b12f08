-- An input read has the code that it came from.
use Rattle.std.specs.Prelude.{◌≡◌, ℕ, Some}
use Rattle.std.proofs.Common.{arith}
use Rattle.std.proofs.lemmas.Bool.Decides.{nat_tests}
use Rattle.duel.specs.declared.input.Direction.{Direction}
use Rattle.duel.specs.declared.input.DuelInput.{DuelInput}
use Rattle.duel.specs.Inputs.{direction_numbered, number_of_direction, code_of, input_of}

pub numbered_back : (k : ℕ) (d : Direction) → direction_numbered k ≡ Some d → number_of_direction d ≡ k
numbered_back k d e = grind (arith, nat_tests)

pub code_of_read : (n : ℕ) (x : DuelInput) → input_of n ≡ Some x → code_of x ≡ n
code_of_read n x e = grind (arith, nat_tests)

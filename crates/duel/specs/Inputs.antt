-- The codes of Duel's inputs: direction + 8 × fire, where 0 is no direction.
use Rattle.std.specs.Prelude.{ℕ, ◌+◌, ◌/◌, ◌%◌, Bool, true, false, cond, Some, None, Option, ◌==◌}
use Rattle.std.specs.Option.{option_map}
use Rattle.duel.specs.declared.input.Direction.{Direction}
use Rattle.duel.specs.declared.input.Direction.TheVariants.{Up, Right, Down, Left}
use Rattle.duel.specs.declared.input.DuelInput.{DuelInput}

abbrev pub number_of_direction : Direction → ℕ
number_of_direction Up = 1
number_of_direction Right = 2
number_of_direction Down = 3
number_of_direction Left = 4

abbrev pub direction_numbered : ℕ → Option Direction
direction_numbered n = cond (n == 1) (Some Up) (cond (n == 2) (Some Right) (cond (n == 3) (Some Down) (cond (n == 4) (Some Left) None)))

abbrev pub input : Option Direction → Bool → DuelInput
input d f = record { steer = d; fire = f }

-- doing nothing
abbrev pub staying : DuelInput
staying = input None false

abbrev pub steer_code : Option Direction → ℕ
steer_code None = 0
steer_code (Some d) = number_of_direction d

abbrev pub code_of : DuelInput → ℕ
code_of i = steer_code i.steer + cond i.fire 8 0

-- an input that steers as the number says, 0 being not at all
abbrev pub steering : ℕ → Bool → Option DuelInput
steering n f = cond (n == 0) (Some (input None f)) (option_map (λ d. input (Some d) f) (direction_numbered n))

abbrev pub input_of : ℕ → Option DuelInput
input_of n = cond (n / 8 == 0) (steering (n % 8) false) (cond (n / 8 == 1) (steering (n % 8) true) None)

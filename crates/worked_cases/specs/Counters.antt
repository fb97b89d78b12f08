-- A small game for tests: a running total, and a dial of ten places.
use Rattle.std.specs.Prelude.{ℕ, ◌+◌, ◌*◌, ◌%◌, ◌^◌, Bool, false, cond, List, [], ◌∷◌, Some, None, Option, ◌==◌, nat_lt, slice_index}
use Rattle.interface.specs.Games.{State, if_lawful}
use Rattle.worked_cases.specs.declared.counter_game.Press.{Press}
use Rattle.worked_cases.specs.declared.counter_game.Press.TheVariants.{Rest, Tap, Push}

abbrev pub press_code : Press → ℕ
press_code Rest = 0
press_code Tap = 1
press_code Push = 2

abbrev pub press_of : ℕ → Option Press
press_of n = cond (n == 0) (Some Rest) (cond (n == 1) (Some Tap) (cond (n == 2) (Some Push) None))

-- two words, and the dial below ten
abbrev pub dial_lawful : State → Bool
dial_lawful [] = false
dial_lawful (total ∷ []) = false
dial_lawful (total ∷ dial ∷ []) = nat_lt dial 10
dial_lawful (total ∷ dial ∷ more ∷ rest) = false

abbrev pub counted : ℕ → ℕ → ℕ → ℕ
counted total a b = (4 * total + 2 * a + b) % 2 ^ 32

abbrev pub counter_next : State → Press → Press → State
counter_next s a b = counted (slice_index s 0) (press_code a) (press_code b) ∷ ((slice_index s 1 + 1) % 10 ∷ [])

-- a trail has the two words from before
abbrev pub counter_undone : State → List ℕ → Option State
counter_undone s t = if_lawful dial_lawful (slice_index t 0 ∷ (slice_index t 1 ∷ []))

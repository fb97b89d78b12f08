-- Going back over the last frames, and stepping ahead with other inputs.
use Rattle.std.specs.Prelude.{◌≡◌, ℕ, zero, suc, ◌<◌, ◌≤◌, cond, List, length, drop, Ok, Err, Result, nat_lt}
use Rattle.interface.specs.declared.answers.Refusal.{Refusal}
use Rattle.interface.specs.declared.answers.Refusal.TheVariants.{OutOfReach}
use Rattle.interface.specs.Games.{State}
use Rattle.interface.specs.Keepers.{advanced, replayed}
use Rattle.interface.specs.Limits.{most_listed}

-- accepted where more states are listed than frames are gone back, else 15
abbrev pub redo_answer : ℕ → List State → Result (Unit {0}) Refusal
redo_answer n ss = cond (nat_lt n (length ss)) (Ok tt) (Err OutOfReach)

-- the states listed after it
abbrev pub redone : {I : Type 0} → (State → I → I → State) → List (I × I) → List State → List State
redone next inputs ss = cond (nat_lt (length inputs) (length ss)) (replayed next (drop (length inputs) ss) inputs) ss

-- where the last frames, eight at most, had these very inputs, nothing changes
abbrev pub SameAgain : {I : Type 0} → (State → I → I → State) → List (I × I) → List State → Result (Unit {0}) Refusal → List State → Type 0
SameAgain next inputs ss answer after =
    (before : List State) → 0 < length before → length before ≤ most_listed → length inputs < most_listed → ss ≡ replayed next before inputs → (answer ≡ Ok tt) × (after ≡ ss)

-- n frames with one pair of inputs
abbrev pub repeated : {I : Type 0} → (State → I → I → State) → ℕ → I → I → List State → List State
repeated next zero a b ss = ss
repeated next (suc n) a b ss = repeated next n a b (advanced next ss a b)

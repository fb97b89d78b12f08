-- The frames that a seat has replayed in all.
use Rattle.std.specs.Prelude.{ℕ, ◌+◌, Bool, cond, List, [], ◌∷◌}
use Rattle.std.specs.Bool.{beq}
use Rattle.trace.specs.declared.forms.TraceTurn.{TraceTurn}

-- of a turn that replays n frames, if it is the seat's
abbrev pub counted : TraceTurn → ℕ → Bool → ℕ
counted t n s = cond (beq t.seat s) n 0

-- the sum over the turns, each with the frames that it replays
abbrev pub total : Bool → List TraceTurn → List ℕ → ℕ
total s [] ns = 0
total s (t ∷ ts) [] = 0
total s (t ∷ ts) (n ∷ ns) = counted t n s + total s ts ns

-- What a line is, by its words.
use Rattle.std.specs.Prelude.{ℕ, Bool, cond, ◌&&◌, List, [], ◌∷◌, Some, None, Ok, Err, codes, Option, Result}
use Rattle.trace.specs.declared.forms.GameName.{GameName}
use Rattle.trace.specs.declared.forms.GameName.TheVariants.{Duel, Speed}
use Rattle.trace.specs.declared.forms.First.{First}
use Rattle.trace.specs.declared.forms.TraceCall.{TraceCall}
use Rattle.trace.specs.declared.forms.TraceCall.TheVariants.{Press, Send, Take}
use Rattle.trace.specs.declared.forms.TraceTurn.{TraceTurn}
use Rattle.trace.specs.declared.line.Mistake.{Mistake}
use Rattle.trace.specs.declared.line.Mistake.TheVariants.{Misshapen, BadNumber}
use Rattle.trace.specs.Pieces.{Piece}
use Rattle.trace.specs.Numbers.{most_32}
use Rattle.trace.specs.Tokens.{Lexeme, words, place, says, number_in, seat_in, short_in}

-- a line after the first: its turn, or nothing where it is `end`; or why it is none
abbrev pub Verdict : Type 0
Verdict = Result (Option TraceTurn) Mistake

-- a seat and a number of 16 bits, or the place of the first that is none
abbrev pub both : ℕ → Option Bool → ℕ → Option ℕ → Result (Bool × ℕ) Mistake
both i None j n = Err (BadNumber i)
both i (Some s) j None = Err (BadNumber j)
both i (Some s) j (Some n) = Ok (s, n)

abbrev pub seat_and_number : Lexeme → Lexeme → Result (Bool × ℕ) Mistake
seat_and_number s n = both (place s) (seat_in s) (place n) (short_in n)

abbrev pub calls : (ℕ → TraceCall) → Result (Bool × ℕ) Mistake → Verdict
calls call (Ok x) = Ok (Some (record { seat = x.0; call = call x.1 }))
calls call (Err m) = Err m

-- what was found at a place, or that no such number stands there
abbrev pub found : {X : Type 0} → ℕ → Option X → Result X Mistake
found i None = Err (BadNumber i)
found i (Some x) = Ok x

abbrev pub sends : ℕ → Option Bool → Verdict
sends i None = Err (BadNumber i)
sends i (Some s) = Ok (Some (record { seat = s; call = Send }))

abbrev pub verdict_of : List Lexeme → Verdict
verdict_of [] = Err Misshapen
verdict_of (w ∷ []) = cond (says (codes "end") w) (Ok None) (Err Misshapen)
verdict_of (w ∷ s ∷ []) = cond (says (codes "send") w) (sends (place s) (seat_in s)) (Err Misshapen)
verdict_of (w ∷ s ∷ n ∷ []) =
    cond (says (codes "press") w) (calls Press (seat_and_number s n)) (cond (says (codes "take") w) (calls Take (seat_and_number s n)) (Err Misshapen))
verdict_of (w ∷ s ∷ n ∷ x ∷ ws) = Err Misshapen

abbrev pub verdict : Piece → Verdict
verdict line = verdict_of (words line)

abbrev pub game_in : Lexeme → Option GameName
game_in w = cond (says (codes "duel") w) (Some Duel) (cond (says (codes "speed") w) (Some Speed) None)

abbrev pub first_by : Option GameName → Option ℕ → Option ℕ → Option First
first_by None n s = None
first_by (Some g) None s = None
first_by (Some g) (Some n) None = None
first_by (Some g) (Some n) (Some s) = Some (record { game = g; match_number = n; seed = s })

-- the first line
abbrev pub first_of : List Lexeme → Option First
first_of [] = None
first_of (mark ∷ []) = None
first_of (mark ∷ version ∷ []) = None
first_of (mark ∷ version ∷ game ∷ []) = None
first_of (mark ∷ version ∷ game ∷ n ∷ []) = None
first_of (mark ∷ version ∷ game ∷ n ∷ seed ∷ []) =
    cond (says (codes "RBT") mark && says (codes "1") version) (first_by (game_in game) (short_in n) (number_in most_32 seed)) None
first_of (mark ∷ version ∷ game ∷ n ∷ seed ∷ x ∷ ws) = None

-- What writing answers, and what it leaves in the buffer.
use Rattle.std.specs.Prelude.{ℕ, ◌+◌, Bool, cond, List, ◌++◌, length, take, drop, Ok, Err, Result, nat_lt}
use Rattle.interface.specs.declared.answers.Refusal.{Refusal}
use Rattle.interface.specs.declared.answers.Refusal.TheVariants.{BufferTooShort}
use Rattle.datagram.specs.Fields.{Fields}
use Rattle.datagram.specs.Layout.{bytes_of}

-- a part put over the bytes from a place on
abbrev pub spliced : List ℕ → ℕ → List ℕ → List ℕ
spliced old at part = take at old ++ part ++ drop (at + length part) old

abbrev pub too_short : Fields → List ℕ → Bool
too_short d old = nat_lt (length old) (length (bytes_of d))

-- the datagram's length, or 14
abbrev pub write_answer : Fields → List ℕ → Result ℕ Refusal
write_answer d old = cond (too_short d old) (Err BufferTooShort) (Ok (length (bytes_of d)))

-- the datagram and then the old bytes past it, or the old bytes
abbrev pub write_leaves : Fields → List ℕ → List ℕ
write_leaves d old = cond (too_short d old) old (bytes_of d ++ drop (length (bytes_of d)) old)

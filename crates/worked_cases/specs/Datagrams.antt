-- The worked datagram: match 7, seat 0 having pressed 2 and 10, nothing heard of the other seat.
use Rattle.std.specs.Prelude.{◌≡◌, ℕ, List, [], ◌∷◌, Ok, Err, Result, slice_set}
use Rattle.interface.specs.Answers.{number_of}
use Rattle.interface.specs.declared.answers.Refusal.{Refusal}
use Rattle.datagram.specs.Fields.{Fields}
use Rattle.datagram.specs.Layout.{bytes_of}
use Rattle.datagram.specs.Reading.{read_of}

abbrev pub worked : Fields
worked = record { sender = 0; match_number = 7; start = 0; codes = 2 ∷ 10 ∷ []; acknowledgement = 0; report_frame = 0; digest = 202 }

abbrev pub worked_bytes : List ℕ
worked_bytes = 82 ∷ 66 ∷ 75 ∷ 1 ∷ 0 ∷ 0 ∷ 7 ∷ 0 ∷ 0 ∷ 0 ∷ 2 ∷ 0 ∷ 0 ∷ 0 ∷ 0 ∷ 202 ∷ 0 ∷ 0 ∷ 0 ∷ 2 ∷ 0 ∷ 10 ∷ 0 ∷ 166 ∷ 15 ∷ []

-- the number that reading answers
abbrev pub answer : Result Fields Refusal → ℕ
answer (Ok d) = 0
answer (Err e) = number_of e

pub record Worked : Type 0 where
  pub written : bytes_of worked ≡ worked_bytes
  pub taken : read_of worked_bytes ≡ Ok worked
  pub altered : answer (read_of (slice_set worked_bytes 19 3)) ≡ 3

-- What the fields of a datagram are, to be written and read.
use Rattle.std.specs.Borrow.{Bor}
use Rattle.std.specs.Prelude.{ℕ, List, Ok, Err, Result}
use Rattle.interface.specs.declared.answers.Refusal.{Refusal}
use Rattle.datagram.specs.declared.forms.Datagram.{Datagram}
use Rattle.datagram.specs.Fields.{Fields}
use Rattle.datagram.specs.Reading.{codes_of}

-- what a datagram says, with a list of codes for its own
abbrev pub fields_with : {C : Type 0} → List ℕ → Datagram C → Fields
fields_with cs d = record { sender = d.sender; match_number = d.match_number; start = d.start; codes = cs; acknowledgement = d.acknowledgement; report_frame = d.report_frame; digest = d.digest }

-- one that is to be written
abbrev pub fields_of : Datagram (List ℕ) → Fields
fields_of d = fields_with d.codes d

-- one that was read
abbrev pub fields_read : Datagram (Bor (List ℕ)) → Fields
fields_read d = fields_with (codes_of d.codes.now) d

-- an answer of reading, by its fields
abbrev pub answered : Result (Datagram (Bor (List ℕ))) Refusal → Result Fields Refusal
answered (Ok d) = Ok (fields_read d)
answered (Err e) = Err e

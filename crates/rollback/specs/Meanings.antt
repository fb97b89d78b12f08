-- What the types of this crate and of `datagram` mean here.
use Rattle.std.specs.Borrow.{Bor}
use Rattle.std.specs.Prelude.{ℕ, ◌+◌, List, length}
use Rattle.datagram.specs.declared.forms.Datagram.{Datagram}
use Rattle.datagram.specs.Reading.{codes_of}
use Rattle.rollback.specs.declared.inputs.Held.{Held}
use Rattle.rollback.specs.Inputs.{Inputs}

abbrev pub inputs_of : {I : Type 0} → Held I → Inputs I
inputs_of h = record { own = h.own.slots.now; played = h.own.queue.next; others = h.other.slots.now; known = h.other.queue.next }

-- the codes of a datagram that was read
abbrev pub codes_in : Datagram (Bor (List ℕ)) → List ℕ
codes_in d = codes_of d.codes.now

-- its start and its number of codes
abbrev pub end_of : Datagram (Bor (List ℕ)) → ℕ
end_of d = d.start + length (codes_in d)

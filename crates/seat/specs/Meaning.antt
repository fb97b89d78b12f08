-- What the types of src/state.rt mean.
use Rattle.std.specs.Prelude.{ℕ, List}
use Rattle.interface.specs.Keepers.{Kept}
use Rattle.seat.specs.declared.state.Seat.{Seat}
use Rattle.seat.specs.Views.{View}

module _ {G K H I : Type 0} (kept : K → Kept) where
  abbrev pub view : Seat G K H → List I → List I → List ℕ → View I
  view s own others digests = record { seat = s.second; match_number = s.match_number; played = s.own.next; known = s.other.next; acknowledged = s.acknowledged; parted = s.parted; states = (kept s.keeper).states; own = own; others = others; digests = digests }

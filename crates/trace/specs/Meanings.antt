-- What the types of src/ mean.
use Rattle.std.specs.Prelude.{◌≡◌, ℕ, ◌+◌, List, [], length, Some, None, Option}
use Rattle.trace.specs.declared.part.Part.{Part}
use Rattle.trace.specs.Pieces.{Piece, pieces, placed}

abbrev pub piece : Part → Piece
piece p = record { bytes = p.bytes.now; at = p.at }

-- the pieces of a part of the text
abbrev pub parted : ℕ → Part → List Piece
parted s p = placed p.at (pieces s p.bytes.now)

-- the same, of a part that may not be there
abbrev pub parts_left : ℕ → Option Part → List Piece
parts_left s None = []
parts_left s (Some rest) = parted s rest

-- the place after a part's last byte
abbrev pub end_of : Part → ℕ
end_of p = p.at + length p.bytes.now

-- the rest begins after the first piece and the byte after it, and ends as the whole does
abbrev pub EndsAs : Part → Part → Option Part → Type 0
EndsAs whole first None = length first.bytes.now ≡ length whole.bytes.now
EndsAs whole first (Some rest) = (end_of rest ≡ end_of whole) × (rest.at ≡ end_of first + 1)

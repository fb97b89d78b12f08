-- A text parted at every place where one byte stands: lines at byte 10, words at the space.
use Rattle.std.specs.Prelude.{ℕ, ◌+◌, List, [], ◌∷◌, length, ◌==◌}
use Rattle.std.specs.List.{slice_split, join_with_byte}

abbrev pub line_feed : ℕ
line_feed = 10

abbrev pub space : ℕ
space = 32

-- the pieces between the bytes that equal s: one more than there are such bytes, some of them perhaps empty
abbrev pub pieces : ℕ → List ℕ → List (List ℕ)
pieces s bs = slice_split (λ b. b == s) bs

-- pieces put together again, with s between them
abbrev pub joined_by : ℕ → List (List ℕ) → List ℕ
joined_by s ps = join_with_byte s ps

-- a piece, with the place of its first byte in the text
pub record Piece : Type 0 where
  pub bytes : List ℕ
  pub at : ℕ

-- the pieces of a part of the text that begins at a place
abbrev pub placed : ℕ → List (List ℕ) → List Piece
placed at [] = []
placed at (p ∷ ps) = record { bytes = p; at = at } ∷ placed (at + length p + 1) ps

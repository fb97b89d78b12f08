-- What ties reading to writing.
use Rattle.std.specs.Prelude.{◌≡◌, ℕ, ◌<◌, ◌≤◌, false, List, length, take, is_ok, Ok, Result, ◌≢◌, slice_index, slice_set}
use Rattle.interface.specs.declared.answers.Refusal.{Refusal}
use Rattle.interface.specs.Limits.{most_codes}
use Rattle.datagram.specs.Fields.{Fields, Fits}
use Rattle.datagram.specs.Layout.{bytes_of}
use Rattle.datagram.specs.Reading.{read_of}

-- no number of the list is above 255
abbrev pub Bytes : List ℕ → Type 0
Bytes bs = (k : ℕ) → slice_index bs k < 256

-- of bytes and what reading them answers
pub record Faithful (bs : List ℕ) (r : Result Fields Refusal) : Type 0 where
  -- what was written is read as the same fields
  pub returned : (d : Fields) → Fits d → bs ≡ bytes_of d → r ≡ Ok d
  -- what is accepted is exactly what writing its fields gives
  pub exact : (d : Fields) → r ≡ Ok d → bs ≡ bytes_of d
  pub fits : (d : Fields) → r ≡ Ok d → Fits d
  -- so no other bytes are accepted as the same datagram
  pub alone : (d : Fields) (other : List ℕ) → Bytes other → r ≡ Ok d → read_of other ≡ Ok d → other ≡ bs
  -- a written datagram with just one byte altered, whichever and however, is not accepted, whatever its seat byte
  pub detected : (d : Fields) (i b : ℕ) → d.sender < 256 → length d.codes ≤ most_codes → i < length (bytes_of d) → (b ≢ slice_index (bytes_of d) i) → bs ≡ slice_set (bytes_of d) i b → is_ok r ≡ false

-- of a datagram and a buffer that it was written into: its bytes are read as the same fields
pub record Readable (d : Fields) (after : List ℕ) : Type 0 where
  pub returned : d.sender < 2 → read_of (take (length (bytes_of d)) after) ≡ Ok d

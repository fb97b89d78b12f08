-- What a datagram says, whatever holds it.
use Rattle.std.specs.Prelude.{ℕ, ◌^◌, ◌<◌, ◌≤◌, List, length}
use Rattle.std.specs.List.{AllByRecursion}
use Rattle.interface.specs.Limits.{most_codes}

pub record Fields : Type 0 where
  -- the seat that sends it
  pub sender : ℕ
  pub match_number : ℕ
  -- the frame of the first code
  pub start : ℕ
  pub codes : List ℕ
  pub acknowledgement : ℕ
  pub report_frame : ℕ
  -- of the state at the report frame
  pub digest : ℕ

-- each number fits its bytes
pub record HeaderFits (d : Fields) : Type 0 where
  pub match_number : d.match_number < 2 ^ 16
  pub start : d.start < 2 ^ 16
  pub acknowledgement : d.acknowledgement < 2 ^ 16
  pub report_frame : d.report_frame < 2 ^ 16
  pub digest : d.digest < 2 ^ 32

-- and the seat is 0 or 1, and there are at most 32 codes that fit theirs
pub record Fits (d : Fields) : Type 0 where
  pub sender : d.sender < 2
  pub numbers : HeaderFits d
  pub few : length d.codes ≤ most_codes
  pub codes : AllByRecursion (λ c. c < 2 ^ 16) d.codes

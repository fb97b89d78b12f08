-- What reading answers for any bytes: the first check that fails, or the fields.
use Rattle.std.specs.Prelude.{ℕ, ◌+◌, ◌-◌, ◌*◌, Bool, cond, not, ◌&&◌, ◌||◌, List, [], ◌∷◌, length, take, drop, Ok, Err, Result, ◌==◌, nat_lt, slice_index}
use Rattle.interface.specs.declared.answers.Refusal.{Refusal}
use Rattle.interface.specs.declared.answers.Refusal.TheVariants.{BadLength, BadMark, BadCheckWord, NotOurs}
use Rattle.interface.specs.Limits.{most_codes}
use Rattle.datagram.specs.Fields.{Fields}
use Rattle.datagram.specs.Layout.{check_word}

-- the number of 16 bits at place i
abbrev pub two_at : List ℕ → ℕ → ℕ
two_at bs i = slice_index bs i + slice_index bs (i + 1) * 256

-- the number of 32 bits at place i
abbrev pub four_at : List ℕ → ℕ → ℕ
four_at bs i = slice_index bs i + slice_index bs (i + 1) * 256 + slice_index bs (i + 2) * 65536 + slice_index bs (i + 3) * 16777216

-- the codes of a list of bytes, two to each
abbrev pub codes_of : List ℕ → List ℕ
codes_of [] = []
codes_of (a ∷ []) = []
codes_of (a ∷ b ∷ bs) = (a + b * 256) ∷ codes_of bs

-- the bytes of the codes
abbrev pub codes_part : List ℕ → List ℕ
codes_part bs = take (2 * slice_index bs 10) (drop 19 bs)

-- under 21 bytes, more than 32 codes, or not the length that the count gives
abbrev pub bad_length : List ℕ → Bool
bad_length bs = nat_lt (length bs) 21 || nat_lt most_codes (slice_index bs 10) || not (length bs == 21 + 2 * slice_index bs 10)

-- another mark or version
abbrev pub bad_mark : List ℕ → Bool
bad_mark bs = not (slice_index bs 0 == 82 && slice_index bs 1 == 66 && slice_index bs 2 == 75 && two_at bs 3 == 1)

-- another check word
abbrev pub bad_check_word : List ℕ → Bool
bad_check_word bs = not (two_at bs (length bs - 2) == check_word (take (length bs - 2) bs))

-- a sender that is neither seat 0 nor seat 1
abbrev pub bad_sender : List ℕ → Bool
bad_sender bs = nat_lt 1 (slice_index bs 5)

-- the fields at their places
abbrev pub fields_at : List ℕ → Fields
fields_at bs = record { sender = slice_index bs 5; match_number = two_at bs 6; start = two_at bs 8; codes = codes_of (codes_part bs); acknowledgement = two_at bs 11; report_frame = two_at bs 13; digest = four_at bs 15 }

-- the first two checks alone
abbrev pub taken_apart : List ℕ → Result Fields Refusal
taken_apart bs = cond (bad_length bs) (Err BadLength) (cond (bad_mark bs) (Err BadMark) (Ok (fields_at bs)))

abbrev pub read_of : List ℕ → Result Fields Refusal
read_of bs = cond (bad_length bs) (Err BadLength) (cond (bad_mark bs) (Err BadMark) (cond (bad_check_word bs) (Err BadCheckWord) (cond (bad_sender bs) (Err NotOurs) (Ok (fields_at bs)))))

-- Numbers in decimal.
use Rattle.std.specs.Prelude.{ℕ, ◌+◌, ◌-◌, ◌*◌, Bool, true, false, cond, not, ◌&&◌, List, [], ◌∷◌, Some, None, Option, ◌==◌, nat_le}
use Rattle.std.specs.Char.{is_ascii_digit}
use Rattle.std.specs.Str.{all_ascii_digits}

-- the most that a number of 16 bits, and one of 32 bits, is
abbrev pub most_16 : ℕ
most_16 = 65535

abbrev pub most_32 : ℕ
most_32 = 4294967295

-- the digits read after a number n
abbrev pub value_after : ℕ → List ℕ → ℕ
value_after n [] = n
value_after n (c ∷ cs) = value_after (10 * n + (c - 48)) cs

abbrev pub value : List ℕ → ℕ
value w = value_after 0 w

-- nothing follows a leading zero
abbrev pub no_leading_zero : List ℕ → Bool
no_leading_zero [] = false
no_leading_zero (c ∷ []) = true
no_leading_zero (c ∷ d ∷ cs) = not (c == 48)

-- some digits, with no leading zero
abbrev pub numeral : List ℕ → Bool
numeral w = no_leading_zero w && all_ascii_digits w

-- the number that a word is, if it is one of at most so much
abbrev pub number : ℕ → List ℕ → Option ℕ
number most w = cond (numeral w && nat_le (value w) most) (Some (value w)) None

-- how the code reads it: a number with one digit more, or nothing where the byte is no digit or the number is too large
abbrev pub with_digit : Option ℕ → ℕ → Option ℕ
with_digit None c = None
with_digit (Some n) c = cond (is_ascii_digit c && nat_le (10 * n + (c - 48)) most_32) (Some (10 * n + (c - 48))) None

-- and with all digits of a list
abbrev pub digits_after : Option ℕ → List ℕ → Option ℕ
digits_after o [] = o
digits_after o (c ∷ cs) = digits_after (with_digit o c) cs

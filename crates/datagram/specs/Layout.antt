-- A datagram as bytes. Wide numbers go least byte first.
use Rattle.std.specs.Prelude.{ℕ, ◌+◌, ◌*◌, ◌/◌, ◌%◌, List, [], ◌∷◌, ◌++◌, length}
use Rattle.datagram.specs.Fields.{Fields}

-- a number of 16 bits
abbrev pub two_bytes : ℕ → List ℕ
two_bytes n = n % 256 ∷ n / 256 % 256 ∷ []

-- a number of 32 bits
abbrev pub four_bytes : ℕ → List ℕ
four_bytes n = n % 256 ∷ n / 256 % 256 ∷ n / 65536 % 256 ∷ n / 16777216 % 256 ∷ []

-- the mark RBK, and version 1
abbrev pub mark_bytes : List ℕ
mark_bytes = 82 ∷ 66 ∷ 75 ∷ two_bytes 1

-- the 19 bytes before the codes
abbrev pub header_bytes : Fields → List ℕ
header_bytes d = mark_bytes ++ (d.sender ∷ []) ++ two_bytes d.match_number ++ two_bytes d.start ++ (length d.codes ∷ []) ++ two_bytes d.acknowledgement ++ two_bytes d.report_frame ++ four_bytes d.digest

abbrev pub code_bytes : List ℕ → List ℕ
code_bytes [] = []
code_bytes (c ∷ cs) = two_bytes c ++ code_bytes cs

-- all that the check word covers
abbrev pub body_bytes : Fields → List ℕ
body_bytes d = header_bytes d ++ code_bytes d.codes

-- the sum of (j + 1) × byte j, where the list begins with byte i
abbrev pub weighted : ℕ → List ℕ → ℕ
weighted i [] = 0
weighted i (b ∷ bs) = (i + 1) * b + weighted (i + 1) bs

abbrev pub check_word : List ℕ → ℕ
check_word bs = weighted 0 bs % 65536

-- the whole datagram
abbrev pub bytes_of : Fields → List ℕ
bytes_of d = body_bytes d ++ two_bytes (check_word (body_bytes d))

-- The limits of a match: src/limits.rt has the same numbers for the code.
use Rattle.std.specs.Prelude.{ℕ}

-- a match has no frame from this number on
abbrev pub match_length : ℕ
match_length = 60000

-- how many frames a seat may play past the other seat's known inputs
abbrev pub most_lead : ℕ
most_lead = 8

-- how many of its own inputs a seat may have that are not acknowledged
abbrev pub most_unacknowledged : ℕ
most_unacknowledged = 32

-- how many codes a datagram may carry
abbrev pub most_codes : ℕ
most_codes = 32

-- how many slots a frame queue has
abbrev pub queue_slots : ℕ
queue_slots = 32

-- the highest frame that a queue takes
abbrev pub top_frame : ℕ
top_frame = 65535

-- how many states a keeper lists at most
abbrev pub most_listed : ℕ
most_listed = 9

-- how many words a game may have
abbrev pub most_words : ℕ
most_words = 72

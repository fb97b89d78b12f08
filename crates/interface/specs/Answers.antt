-- The table of answers: the number of each refusal, and the two that accept.
use Rattle.std.specs.Prelude.{ℕ}
use Rattle.interface.specs.declared.answers.Acceptance.{Acceptance}
use Rattle.interface.specs.declared.answers.Acceptance.TheVariants.{Accepted, AcceptedAndParted}
use Rattle.interface.specs.declared.answers.Refusal.{Refusal}
use Rattle.interface.specs.declared.answers.Refusal.TheVariants.{BadLength, BadMark, BadCheckWord, NotOurs, UnreadCode, StartTooLate, EndTooLate, AcknowledgementTooLate, ReportTooLate, Parted, MatchOver, TooFarAhead, Unacknowledged, BufferTooShort, OutOfReach, Unlawful, NoSuchDatagram, LogFull, BadFrame, NoSuchSeat, BadFirstLine, BadLine, BadNumber, BadEnding, TraceTooLong}

abbrev pub accepted : ℕ
accepted = 0

abbrev pub accepted_and_parted : ℕ
accepted_and_parted = 30

abbrev pub acceptance_number : Acceptance → ℕ
acceptance_number Accepted = accepted
acceptance_number AcceptedAndParted = accepted_and_parted

abbrev pub number_of : Refusal → ℕ
number_of BadLength = 1
number_of BadMark = 2
number_of BadCheckWord = 3
number_of NotOurs = 4
number_of UnreadCode = 5
number_of StartTooLate = 6
number_of EndTooLate = 7
number_of AcknowledgementTooLate = 8
number_of ReportTooLate = 9
number_of Parted = 10
number_of MatchOver = 11
number_of TooFarAhead = 12
number_of Unacknowledged = 13
number_of BufferTooShort = 14
number_of OutOfReach = 15
number_of Unlawful = 16
number_of NoSuchDatagram = 17
number_of LogFull = 18
number_of BadFrame = 20
number_of NoSuchSeat = 21
number_of BadFirstLine = 24
number_of BadLine = 25
number_of BadNumber = 26
number_of BadEnding = 27
number_of TraceTooLong = 28

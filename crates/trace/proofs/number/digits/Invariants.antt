use Rattle.std.proofs.Common.{◌≡◌, drop, Some}
use Rattle.trace.specs.Numbers.{digits_after}
use Rattle.trace.proofs.number.digits.Given as goal

-- the number so far and the digits left give the whole
abbrev pub invariant-loop-digit : goal.invariant-loop-digit
invariant-loop-digit l = digits_after (Some l.value) (drop l.digit-index l.word) ≡ digits_after (Some 0) l.word

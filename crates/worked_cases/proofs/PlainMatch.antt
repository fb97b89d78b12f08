-- A seat that has the other's latest datagram, and one whose other has pressed nothing.
use Rattle.std.proofs.Common.{ℕ, zero, suc, ◌+◌, ◌<◌, true, false, Some, None, Option, refl, ap, arith}
use Rattle.plain.specs.Match.{Turn, Move, Press, Send, Take}
use Rattle.plain.specs.Turns.{Presses, HasTheLatest}
use Rattle.worked_cases.specs.PlainMatch.{rules, lent, one_heard}

-- 1 and the seat's number for a press, else 0
abbrev of_move : ℕ → Move → ℕ
of_move n (Press code) = n + 1
of_move n (Send records) = 0
of_move n (Take k records) = 0

abbrev press_of : Option Turn → ℕ
press_of None = 0
press_of (Some t) = of_move t.seat t.move

-- seat 1 presses in turn 0 alone
only_first : (i : ℕ) → Presses rules one_heard true i → i < 1
only_first zero h = omega arith
only_first (suc zero) h = omega (arith, ap press_of h.is.0)
only_first (suc (suc zero)) h = omega (arith, ap press_of h.is.0)
only_first (suc (suc (suc i))) h = omega (arith, ap press_of h.is.0)

-- seat 0 presses in none
pub none : (i : ℕ) → Presses rules one_heard false i → ⊥
none zero h = omega (arith, ap press_of h.is.0)
none (suc zero) h = omega (arith, ap press_of h.is.0)
none (suc (suc zero)) h = omega (arith, ap press_of h.is.0)
none (suc (suc (suc i))) h = omega (arith, ap press_of h.is.0)

pub heard : HasTheLatest rules one_heard false
heard =
    record {
      datagram = 0;
      sent_at = 1;
      taken_at = 2;
      was_sent = record { records = 512; lent = lent; is = (refl, refl); numbered = refl };
      was_taken = record { records = 512; lent = lent; is = (refl, refl) };
      after_every_press = only_first;
    }

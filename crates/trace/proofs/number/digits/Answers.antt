use Rattle.std.proofs.Common.{◌+◌, drop, Some, sym, ap, ◌∙◌}
use Rattle.std.proofs.lemmas.List.{drop_more}
use Rattle.trace.specs.Numbers.{digits_after}
use Rattle.trace.proofs.Decimals.{digits_none}
use Rattle.trace.proofs.number.digits.Goals as goal

pub returns-in_err-value : goal.returns-in_err-value
returns-in_err-value c =
    let rest = drop (c.loop-digit.digit-index + 1) c.args.word.now in
    let none = ap (λ o. digits_after o rest) (sym c.with_digit.ensures ∙ c.in_err-value.was) ∙ digits_none rest in
    c.from_residual.ensures
    ∙ (sym none ∙ (sym (ap (digits_after (Some c.loop-digit.value)) (drop_more c.args.word.now c.loop-digit.digit-index 0 c.loop-digit-test.true)) ∙ c.loop-digit.invariant))

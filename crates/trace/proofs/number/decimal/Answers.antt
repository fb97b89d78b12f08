use Rattle.std.proofs.Common.{sym, ◌∙◌}
use Rattle.trace.proofs.Decimals.{no_numeral, digits_number}
use Rattle.trace.proofs.number.decimal.Goals as goal

pub returns-then-not-no_leading_zero : goal.returns-then-not-no_leading_zero
returns-then-not-no_leading_zero c = no_numeral c.args.word.now (sym c.no_leading_zero.ensures ∙ c.if-not-no_leading_zero.true)

pub returns : goal.returns
returns c = c.digits.ensures ∙ digits_number c.args.word.now (sym c.no_leading_zero.ensures ∙ c.if-not-no_leading_zero.false)

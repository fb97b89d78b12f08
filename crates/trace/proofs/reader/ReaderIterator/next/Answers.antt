use Rattle.std.proofs.Common.{◌+◌, Some, None, Ok, Err, sym, ap, ◌∙◌, refl, arith}
use Rattle.trace.specs.declared.line.Mistake.TheVariants.{Misshapen, BadNumber as NoNumber}
use Rattle.trace.specs.Pieces.{line_feed}
use Rattle.trace.specs.Meanings.{parted}
use Rattle.trace.specs.Ahead.{items_of}
use Rattle.trace.proofs.Readings.{line_read, rest_later, end_items}
use Rattle.trace.proofs.reader.ReaderIterator.next.Goals as goal

pub invariant_of-self-in-Ok-Some : goal.invariant_of-self-in-Ok-Some
invariant_of-self-in-Ok-Some c = record {
  lines = λ x same.
      let w = c.in_ok-take.field-0 in
      let before = c.args.self.now.lines w (sym c.take.ensures.value ∙ c.in_ok-take.was) in
      let later = rest_later w c.split.result.0 c.in-Some.rest x c.split.result.1 c.split.ensures.pieces c.split.ensures.rest c.in-Some.is same in
      omega arith;
}

pub returns-in-Ok-Some-clause-steps : goal.returns-in-Ok-Some-clause-steps
returns-in-Ok-Some-clause-steps c =
    let said = ap (λ x. Ok x) (sym c.in-Ok-Some.field-0-is) ∙ sym c.in-Ok-Some.is ∙ c.judge.ensures in
    let all = ap items_of (line_read c.args.self.now c.in_ok-take.field-0 c.split.result.0 c.in-Some.rest c.split.result.1 (Ok (Some c.in-Ok-Some.turn)) (sym c.take.ensures.value ∙ c.in_ok-take.was) c.split.ensures.pieces c.in-Some.is said) in
    rw c.in-Ok-Some.field-0-is all

pub returns-in_err-finish-in-Ok-None-clause-steps : goal.returns-in_err-finish-in-Ok-None-clause-steps
returns-in_err-finish-in-Ok-None-clause-steps c =
    let said = ap (λ x. Ok x) (sym c.in-Ok-None.field-0-is) ∙ sym c.in-Ok-None.is ∙ c.judge.ensures in
    let all = ap items_of (line_read c.args.self.now c.in_ok-take.field-0 c.split.result.0 c.in-Some.rest c.split.result.1 (Ok None) (sym c.take.ensures.value ∙ c.in_ok-take.was) c.split.ensures.pieces c.in-Some.is said) ∙ end_items (c.args.self.now.line + 1) (parted line_feed c.in-Some.rest) None (sym c.in_err-finish-in-Ok-None.was ∙ c.finish.ensures) in
    rw (c.from_residual-in_err-finish-in-Ok-None.ensures, c.take.ensures.after) (all, refl)

pub returns-in-Err-Misshapen-clause-steps : goal.returns-in-Err-Misshapen-clause-steps
returns-in-Err-Misshapen-clause-steps c =
    let said = ap (λ x. Err x) (sym c.in-Err-Misshapen.field-0-is) ∙ sym c.in-Err-Misshapen.is ∙ c.judge.ensures in
    let all = ap items_of (line_read c.args.self.now c.in_ok-take.field-0 c.split.result.0 c.in-Some.rest c.split.result.1 (Err Misshapen) (sym c.take.ensures.value ∙ c.in_ok-take.was) c.split.ensures.pieces c.in-Some.is said) in
    rw c.take.ensures.after all

pub returns-in-Err-BadNumber-clause-steps : goal.returns-in-Err-BadNumber-clause-steps
returns-in-Err-BadNumber-clause-steps c =
    let said = ap (λ x. Err x) (sym c.in-Err-BadNumber.field-0-is) ∙ sym c.in-Err-BadNumber.is ∙ c.judge.ensures in
    let all = ap items_of (line_read c.args.self.now c.in_ok-take.field-0 c.split.result.0 c.in-Some.rest c.split.result.1 (Err (NoNumber c.in-Err-BadNumber.at)) (sym c.take.ensures.value ∙ c.in_ok-take.was) c.split.ensures.pieces c.in-Some.is said) in
    rw (c.in-Err-BadNumber.field-0-is, c.take.ensures.after) all

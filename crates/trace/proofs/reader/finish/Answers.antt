use Rattle.std.proofs.Common.{◌≡◌, ◌<◌, length, Some, sym, ap, ◌∙◌, arith}
use Rattle.std.proofs.lemmas.Bool.{eqb-true, eqb-false}
use Rattle.trace.specs.Reading.{Rest}
use Rattle.trace.proofs.Readings.{nothing_after, something_after}
use Rattle.trace.proofs.reader.finish.Goals as goal

pub returns-then-is_empty : goal.returns-then-is_empty
returns-then-is_empty c =
    let r = c.args.rest in
    let none : length r.bytes.now ≡ 0 = eqb-true (length r.bytes.now) 0 (sym c.is_empty.ensures ∙ c.if-is_empty.true) in
    sym (ap (λ (x : Rest). x.fault) (nothing_after c.args.line r.at r.bytes.now none))

pub returns : goal.returns
returns c =
    let r = c.args.rest in
    let some : 0 < length r.bytes.now = omega (arith, eqb-false (length r.bytes.now) 0 (sym c.is_empty.ensures ∙ c.if-is_empty.false)) in
    let whole = something_after c.args.line r c.split.result.0 c.split.result.1 c.split.ensures.pieces c.split.ensures.rest some in
    ap (λ why. Some (record { why = why; line = c.args.line; at = c.split.result.0.at })) c.out_of_place.ensures ∙ sym (ap (λ (x : Rest). x.fault) whole)

use Rattle.std.proofs.Common.{None, string_bytes, sym, ap, ◌∙◌}
use Rattle.std.proofs.lemmas.Result.{IfOk-weaker}
use Rattle.report.specs.Texts.{ending_text}
use Rattle.report.proofs.Texts.{seats_words}
use Rattle.report.proofs.text.ending_text.Goals as goal

pub returns-in-None-Some : goal.returns-in-None-Some
returns-in-None-Some c =
    let x = c.in-None-Some in
    let ends = ap (λ f. ending_text f c.args.seats) x.is-0 ∙ ap (λ s. ending_text None s) x.is-1 in
    IfOk-weaker c.format.result _ _ (λ s e. seats_words x.first x.second (string_bytes s) e ∙ sym ends) c.format.ensures.ok

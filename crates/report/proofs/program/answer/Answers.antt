use Rattle.std.proofs.Common.{length, string_bytes, ◌∙◌}
use Rattle.std.proofs.lemmas.Result.{IfOk-weaker}
use Rattle.report.proofs.Texts.{within}
use Rattle.report.proofs.program.answer.Goals as goal

pub returns : goal.returns
returns c =
    IfOk-weaker c.render.result _ _
    (λ s e. within c.args.text.now (string_bytes s) _ (length c.deref_mut.result.now) c.if-text-gt-MOST_BYTES.false (c.deref_mut.ensures.len ∙ c.in_ok-log.ensures.len) c.in_ok-report.ensures.told e)
    c.render.ensures

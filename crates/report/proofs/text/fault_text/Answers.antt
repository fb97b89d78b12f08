use Rattle.std.proofs.Common.{[], ◌∷◌, string_bytes, codes, decimal, ap, ◌∙◌}
use Rattle.std.proofs.lemmas.Result.{IfOk-weaker}
use Rattle.report.specs.Texts.{line}
use Rattle.report.proofs.Texts.{fault_words}
use Rattle.report.proofs.text.fault_text.Goals as goal

pub returns : goal.returns
returns c =
    let f = c.args.fault in
    IfOk-weaker c.format.result _ _ (λ s e. fault_words (decimal c.number-number.result) (decimal f.line) (decimal f.at) (string_bytes s) e ∙ ap (λ n. line (codes "fault" ∷ decimal n ∷ codes "line" ∷ decimal f.line ∷ codes "byte" ∷ decimal f.at ∷ [])) c.number-number.ensures) c.format.ensures.ok

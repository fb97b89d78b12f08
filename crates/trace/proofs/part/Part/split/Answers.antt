use Rattle.std.proofs.Common.{◌≡◌, eqb, ap, ◌∙◌, sym, rules, tests}
use Rattle.std.proofs.lemmas.Iterator.{YieldsList-from_slice}
use Rattle.std.proofs.lemmas.Iterator.Search.{position_from_yields_List}
use Rattle.std.specs.List.{position}
use Rattle.trace.specs.Pieces.{placed}
use Rattle.trace.proofs.Joins.{pieces_never, placed_at}
use Rattle.trace.proofs.part.Part.split.Goals as goal

pub returns-in-None-clause-pieces : goal.returns-in-None-clause-pieces
returns-in-None-clause-pieces c =
    let bs = c.args.self.bytes.now in
    let found : c.position.result ≡ position (λ b. eqb b c.args.byte) bs = position_from_yields_List (λ b. eqb b c.args.byte) _ _ c.position.result c.position.ensures.ran (YieldsList-from_slice bs cc) (λ x b q k. search (rules, tests)) in
    ap (placed c.args.self.at) (pieces_never c.args.byte bs (sym found ∙ c.in-None.is))

pub returns-in-Some-clause-pieces : goal.returns-in-Some-clause-pieces
returns-in-Some-clause-pieces c =
    let bs = c.args.self.bytes.now in
    let found : c.position.result ≡ position (λ b. eqb b c.args.byte) bs = position_from_yields_List (λ b. eqb b c.args.byte) _ _ c.position.result c.position.ensures.ran (YieldsList-from_slice bs cc) (λ x b q k. search (rules, tests)) in
    let parts = placed_at c.args.byte c.args.self.at bs c.in-Some.i (sym found ∙ c.in-Some.is) in
    parts

use Rattle.std.proofs.Common.{◌≡◌, ◌+◌, ap, sym, ◌∙◌, rules, tests, arith}
use Rattle.std.specs.Bool.{⊤}
use Rattle.std.specs.List.{slice_get}
use Rattle.std.proofs.lemmas.Bool.{MatchBool-at_true}
use Rattle.std.proofs.lemmas.Iterator.{cases_from_all, YieldsList-from_range}
use Rattle.std.proofs.lemmas.List.FromFn.{get_or-range_with_len, length-range_with_len}
use Rattle.interface.specs.Keepers.{newest}
use Rattle.worked_cases.proofs.keeper_scripts.same_words.Goals as goal

-- what `all` says of the numbers of the range, said of a number below the range's end
pub returns-clause-told : goal.returns-clause-told
returns-clause-told g c is k below =
    let s = newest (g.A.Keeper.kept c.args.left.now).states in
    let t = newest (g.B.Keeper.kept c.args.right.now).states in
    let n = c.W.result in
    let each = MatchBool-at_true _ _ is (cases_from_all _ _ _ (λ x. slice_get s x ≡ slice_get t x) (λ _. ⊤) c.all.ensures.ran (YieldsList-from_range 0 n n (cc) (search arith)) (λ x q w. search (rules, tests)) (λ x q w. search rules)) in
    let here : 0 + k ≡ k = search arith in
    let at = get_or-range_with_len 0 n k 0 (search (arith, c.W.ensures, below)) ∙ here in
    ap (slice_get s) (sym at) ∙ each k 0 (search arith) (search (arith, length-range_with_len 0 n, c.W.ensures, below)) ∙ ap (slice_get t) at

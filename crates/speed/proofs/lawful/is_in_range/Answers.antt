use Rattle.std.proofs.Common.{◌≡◌, leb, drop, rules, tests, sym, ap, ◌∙◌, arith}
use Rattle.std.specs.List.{list_all, zip}
use Rattle.std.specs.Slice.Iter.{iter_rest}
use Rattle.std.proofs.lemmas.Iterator.{YieldsList-from_slice, YieldsList-from_zip}
use Rattle.std.proofs.lemmas.Iterator.Search.{all_from_yields_List}
use Rattle.std.proofs.lemmas.List.{length-drop, take_all}
use Rattle.speed.specs.Lawful.{limits}
use Rattle.speed.proofs.Sound.{within_pairs}
use Rattle.speed.proofs.lawful.is_in_range.Goals as goal

pub returns : goal.returns
unfolding limits
returns c =
    let above = drop 52 c.args.words.now in
    let words = YieldsList-from_slice above (ap iter_rest c.zip.ensures.first ∙ (c.iter.ensures.rest ∙ take_all 16 above (omega (arith, length-drop 52 c.args.words.now)))) in
    let pairs : c.all.result ≡ list_all (λ p. leb p.0 p.1) (zip above limits) = all_from_yields_List (λ p. leb p.0 p.1) c.all.new.self _ c.all.result c.all.ensures.ran (YieldsList-from_zip words (YieldsList-from_slice limits c.zip.ensures.second.0)) (λ x b q k. search (rules, tests)) in
    pairs ∙ sym (within_pairs limits above (omega (arith, length-drop 52 c.args.words.now)))

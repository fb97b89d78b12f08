-- A place more is filled.
use Rattle.std.proofs.Common.{◌≡◌, ℕ, ◌+◌, ◌-◌, ◌<◌, List, set, drop, replicate, sym, ap, ◌∙◌, arith, length-set}
use Rattle.std.proofs.lemmas.List.{drop-drop, drop-set-lt, drop-replicate}
use Rattle.datagram.specs.Padding.{IsPadded}

pub one_more : (places : List ℕ) (len code : ℕ) → len < 32 → IsPadded places len → IsPadded (set places len code) (len + 1)
one_more places len code room h =
    let long = h.long in
    let same = length-set places len code in
    let less : 32 - len - 1 ≡ 32 - (len + 1) = omega arith in
    record {
      few = omega arith;
      long = omega arith;
      rest = drop-set-lt (len + 1) places len code (omega arith) ∙ sym (drop-drop 1 len places) ∙ ap (drop 1) h.rest ∙ drop-replicate 1 (32 - len) 0 ∙ ap (λ n. replicate n 0) less;
    }

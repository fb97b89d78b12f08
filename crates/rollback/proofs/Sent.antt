-- What the codes of a datagram say of a frame.
use Rattle.std.proofs.Common.{◌≡◌, ℕ, ◌≤◌, List, length, get_or, Some, None, Option, unwrap_or, sym, ap, ◌∙◌, arith}
use Rattle.std.specs.List.{slice_get}
use Rattle.std.proofs.lemmas.List.{get_or_past}
use Rattle.std.proofs.lemmas.Option.{get_or_from_slice_get, gets}

module _ {I : Type 0} (reads : ℕ → Option I) (idle : I) (cs : List ℕ) (k : ℕ) where
  pub sent_none : reads 0 ≡ Some idle → slice_get cs k ≡ None → unwrap_or (reads (get_or cs k 0)) idle ≡ idle
  sent_none zero_reads e =
      let past : length cs ≤ k = grind (arith, gets) in
      ap (λ n. unwrap_or (reads n) idle) (get_or_past cs k 0 past) ∙ ap (λ o. unwrap_or o idle) zero_reads

  pub sent_some : (c : ℕ) (o : Option I) → slice_get cs k ≡ Some c → o ≡ reads c → unwrap_or o idle ≡ unwrap_or (reads (get_or cs k 0)) idle
  sent_some c o e read =
      ap (λ p. unwrap_or p idle) (read ∙ ap reads (sym (get_or_from_slice_get cs k c 0 e)))

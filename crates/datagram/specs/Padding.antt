-- A list in an array of 32 places, with zeros past it.
use Rattle.std.specs.Prelude.{◌≡◌, ℕ, ◌-◌, ◌≤◌, List, ◌++◌, length, take, drop, replicate}
use Rattle.std.proofs.Common.{sym, ap, ◌∙◌, arith, length-take}
use Rattle.std.proofs.lemmas.List.{take-append-drop}
use Rattle.interface.specs.Limits.{most_codes}

abbrev pub padded : List ℕ → List ℕ
padded cs = cs ++ replicate (most_codes - length cs) 0

-- so many places are filled, and the others are zero
pub record IsPadded (places : List ℕ) (len : ℕ) : Type 0 where
  pub few : len ≤ most_codes
  pub long : length places ≡ most_codes
  pub rest : drop len places ≡ replicate (most_codes - len) 0

pub padded_back : (places : List ℕ) (len : ℕ) → IsPadded places len → (padded (take len places) ≡ places) × (length (take len places) ≡ len)
padded_back places len h =
    let few = h.few in
    let long = h.long in
    let l = length-take len places in
    let size : length (take len places) ≡ len = omega arith in
    (ap (λ n. take len places ++ replicate (most_codes - n) 0) size ∙ ap (λ xs. take len places ++ xs) (sym h.rest) ∙ take-append-drop len places, size)

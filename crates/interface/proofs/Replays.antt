-- Stepping ahead through a list of inputs: what stays listed, and what the same inputs give once more.
use Rattle.std.proofs.Common.{◌≡◌, ℕ, zero, suc, ◌+◌, ◌-◌, ◌<◌, ◌≤◌, List, [], ◌∷◌, length, get_or, take, drop, sym, refl, ap, ◌∙◌, arith, length-drop, length-take}
use Rattle.std.proofs.lemmas.List.{take_all, take-take, drop_all, drop_more, drop-drop}
use Rattle.interface.specs.Games.{State}
use Rattle.interface.specs.Keepers.{newest, advanced, replayed}

module _ {I : Type 0} (next : State → I → I → State) where
  -- a loop over the inputs: one step more, and the end
  pub replayed_more : (ss after all : List State) (ps : List (I × I)) (k : ℕ) (p : I × I) → k < length ps → p ≡ get_or ps k p → after ≡ advanced next ss p.0 p.1 → replayed next ss (drop k ps) ≡ all → replayed next after (drop (k + 1) ps) ≡ all
  replayed_more ss after all ps k p h is step inv =
      let split : drop k ps ≡ get_or ps k p ∷ drop (k + 1) ps = drop_more ps k p h in cc

  pub replayed_all : (ss all : List State) (ps : List (I × I)) (k : ℕ) → length ps ≤ k → replayed next ss (drop k ps) ≡ all → ss ≡ all
  replayed_all ss all ps k h inv = let none = drop_all k ps h in cc

  -- a list of nine at most stays one
  pub replayed_few : (ss : List State) (ps : List (I × I)) → length ss ≤ 9 → length (replayed next ss ps) ≤ 9
  replayed_few ss [] few = few
  replayed_few ss (p ∷ ps) few =
      let ss1 = advanced next ss p.0 p.1 in
      let l = length-take 9 (next (newest ss) p.0 p.1 ∷ ss) in
      replayed_few ss1 ps (omega arith)

  -- going back over the steps leaves what was listed before them, as far as it is still listed
  pub dropped_replayed : (ss : List State) (ps : List (I × I)) → length ss ≤ 9 → length ps ≤ 9 → drop (length ps) (replayed next ss ps) ≡ take (9 - length ps) ss
  dropped_replayed ss [] few short = sym (take_all 9 ss few)
  dropped_replayed ss (p ∷ ps) few short =
      let n : ℕ = length ps in
      let x : State = next (newest ss) p.0 p.1 in
      let ss1 = advanced next ss p.0 p.1 in
      let l = length-take 9 (x ∷ ss) in
      let before = dropped_replayed ss1 ps (omega arith) (omega arith) in
      let one : n + 1 ≡ suc n = omega arith in
      let rest : 9 - n ≡ suc (9 - suc n) = omega arith in
      sym (drop-drop 1 n (replayed next ss1 ps) ∙ ap (λ k. drop k (replayed next ss1 ps)) one)
      ∙ ap (drop 1) (before ∙ take-take (9 - n) 9 (x ∷ ss) (omega arith) ∙ ap (λ k. take k (x ∷ ss)) rest)

  newest_take : (k : ℕ) (ss : List State) → 0 < k → newest (take k ss) ≡ newest ss
  newest_take zero ss h = absurd (omega arith)
  newest_take (suc k) [] h = refl
  newest_take (suc k) (s ∷ ss) h = refl

  -- steps from a front of a list give a front of what they give from the list
  pub replayed_take : (k : ℕ) (ss : List State) (ps : List (I × I)) → 0 < k → k + length ps ≤ 9 → replayed next (take k ss) ps ≡ take (k + length ps) (replayed next ss ps)
  replayed_take k ss [] some short = let e : k ≡ k + 0 = omega arith in ap (λ j. take j ss) e
  replayed_take k ss (p ∷ ps) some short =
      let x : State = next (newest ss) p.0 p.1 in
      let n : ℕ = length ps in
      let same : next (newest (take k ss)) p.0 p.1 ≡ x = ap (λ s. next s p.0 p.1) (newest_take k ss some) in
      let l = length-take k ss in
      let front : advanced next (take k ss) p.0 p.1 ≡ take (suc k) (advanced next ss p.0 p.1) =
      ap (λ y. take 9 (y ∷ take k ss)) same ∙ take_all 9 (x ∷ take k ss) (omega arith) ∙ sym (take-take (suc k) 9 (x ∷ ss) (omega arith)) in
      let e : suc k + n ≡ k + suc n = omega arith in
      ap (λ ts. replayed next ts ps) front ∙ replayed_take (suc k) (advanced next ss p.0 p.1) ps (omega arith) (omega arith) ∙ ap (λ j. take j (replayed next (advanced next ss p.0 p.1) ps)) e

  module _ (ss : List State) (ps : List (I × I)) (some : 0 < length ss) (few : length ss ≤ 9) (short : length ps ≤ 8) where
    -- at most eight steps can be gone back over
    pub replayed_reach : length ps < length (replayed next ss ps)
    replayed_reach =
        let n : ℕ = length ps in
        let all = replayed next ss ps in
        let l = length-drop n all in
        let m = length-take (9 - n) ss in
        let e : length (drop n all) ≡ length (take (9 - n) ss) = ap length (dropped_replayed ss ps few (omega arith)) in
        omega arith

    -- and made again, with the same end
    pub replayed_again : replayed next (drop (length ps) (replayed next ss ps)) ps ≡ replayed next ss ps
    replayed_again =
        let n : ℕ = length ps in
        let all = replayed next ss ps in
        let e : 9 - n + n ≡ 9 = omega arith in
        ap (λ ts. replayed next ts ps) (dropped_replayed ss ps few (omega arith))
        ∙ replayed_take (9 - n) ss ps (omega arith) (omega arith)
        ∙ ap (λ k. take k all) e
        ∙ take_all 9 all (replayed_few ss ps few)

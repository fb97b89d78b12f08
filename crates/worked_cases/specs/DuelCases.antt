-- Duel from seed 0, worked by hand.
use Rattle.std.specs.Prelude.{◌≡◌, ℕ, List, [], ◌∷◌, ◌++◌, replicate, slice_index_or}
use Rattle.std.specs.Option.{unwrap_or}
use Rattle.interface.specs.Digest.{digest_of}
use Rattle.interface.specs.Games.{State}
use Rattle.duel.specs.declared.input.DuelInput.{DuelInput}
use Rattle.duel.specs.Inputs.{input_of, staying}
use Rattle.duel.specs.Words.{opening, next}

abbrev coded : ℕ → DuelInput
coded n = unwrap_or (input_of n) staying

-- the state after frames with the codes of seats 0 and 1
abbrev after : State → List (ℕ × ℕ) → State
after s [] = s
after s (f ∷ fs) = after (next s (coded f.0) (coded f.1)) fs

-- seat 1 goes up in each of seven frames, and seat 0 fires in the one that comes after n of them
abbrev shot_after : ℕ → ℕ → State
shot_after n rest = after (opening 0) (replicate n (0, 1) ++ ((8, 1) ∷ replicate rest (0, 1)))

pub record DuelWorked : Type 0 where
  pub opens : opening 0 ≡ 0 ∷ 0 ∷ 2 ∷ 0 ∷ 7 ∷ 7 ∷ 4 ∷ 0 ∷ 0 ∷ 0 ∷ []
  pub opening_digest : digest_of (opening 0) ≡ 202
  pub steps : after (opening 0) ((2, 1) ∷ []) ≡ 1 ∷ 0 ∷ 2 ∷ 0 ∷ 7 ∷ 6 ∷ 1 ∷ 0 ∷ 0 ∷ 0 ∷ []
  pub step_digest : digest_of (after (opening 0) ((2, 1) ∷ [])) ≡ 153
  pub fire_in_frame_6_scores : slice_index_or (shot_after 6 0) 3 9 ≡ 1
  pub fire_in_frame_5_misses : slice_index_or (shot_after 5 1) 3 9 ≡ 0

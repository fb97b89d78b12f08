-- A list of turns, half made.
use Rattle.std.proofs.Common.{◌≡◌, ℕ, ◌+◌, ◌<◌, ◌≤◌, List, [], ◌∷◌, ◌++◌, map, length, get_or, take, drop, set, sym, refl, ap, ◌∙◌, arith}
use Rattle.std.proofs.lemmas.List.{take_more_set, at_drop_more, at_drop_all, map_push, append_assoc, append-nil, drop-set-lt}
use Rattle.refine.specs.Setup.{Setup}
use Rattle.refine.specs.Memory.{Memory}
use Rattle.refine.specs.Matches.{next, through, tale}
use Rattle.refine.specs.Matches as plays
use Rattle.play.specs.declared.turns.Turn.{Turn}
use Rattle.play.specs.declared.turns.Told.{Told}
use Rattle.play.specs.Turns.{step_of, steps_of, told_of}

-- the match was m, and is now k; of the turns, i are made
pub record Going {I : Type 0} (a : Setup I) (m k : Memory I) (ts : List Turn) (i : ℕ) (before now : List Told) : Type 0 where
  pub left : through a k (steps_of (drop i ts)) ≡ through a m (steps_of ts)
  pub tells : map told_of (take i now) ++ tale a k (steps_of (drop i ts)) ≡ tale a m (steps_of ts)
  pub later : drop (length ts) now ≡ drop (length ts) before

module _ {I : Type 0} (a : Setup I) where
  pub starts : (m : Memory I) (ts : List Turn) (before : List Told) → Going a m m ts 0 before before
  starts m ts before = record { left = refl; tells = refl; later = refl }

  pub goes : (m k k' : Memory I) (ts : List Turn) (i : ℕ) (before now : List Told) (d : Turn) (r : Told) → i < length ts → i < length now → k' ≡ next a k (step_of (get_or ts i d)) → told_of r ≡ plays.told a k (step_of (get_or ts i d)) → Going a m k ts i before now → Going a m k' ts (i + 1) before (set now i r)
  unfolding through tale
  goes m k k' ts i before now d r low room is told h =
      let t = step_of (get_or ts i d) in
      let rest = steps_of (drop (i + 1) ts) in
      let here : through a k (steps_of (drop i ts)) ≡ through a (next a k t) rest = at_drop_more (λ us. through a k (steps_of us)) ts i d low in
      let here' : tale a k (steps_of (drop i ts)) ≡ plays.told a k t ∷ tale a (next a k t) rest = at_drop_more (λ us. tale a k (steps_of us)) ts i d low in
      record {
        left = ap (λ z. through a z rest) is ∙ sym here ∙ h.left;
        tells =
            ap (λ us. map told_of us ++ tale a k' rest) (take_more_set now i r room)
            ∙ ap (λ us. us ++ tale a k' rest) (map_push told_of (take i now) r)
            ∙ append_assoc (map told_of (take i now)) (told_of r ∷ []) (tale a k' rest)
            ∙ ap (λ x. map told_of (take i now) ++ x ∷ tale a k' rest) told
            ∙ ap (λ z. map told_of (take i now) ++ plays.told a k t ∷ tale a z rest) is
            ∙ ap (λ us. map told_of (take i now) ++ us) (sym here')
            ∙ h.tells;
        later = drop-set-lt (length ts) now i r low ∙ h.later;
      }

  pub ends : (m k : Memory I) (ts : List Turn) (i : ℕ) (before now : List Told) → i ≡ length ts → Going a m k ts i before now → (k ≡ through a m (steps_of ts)) × (map told_of (take (length ts) now) ≡ tale a m (steps_of ts))
  unfolding through tale
  ends m k ts i before now end h =
      let here : through a k (steps_of (drop i ts)) ≡ k = at_drop_all (λ us. through a k (steps_of us)) ts i (omega arith) in
      let here' : tale a k (steps_of (drop i ts)) ≡ [] = at_drop_all (λ us. tale a k (steps_of us)) ts i (omega arith) in
      (sym here ∙ h.left, ap (λ j. map told_of (take j now)) (sym end) ∙ sym (append-nil (map told_of (take i now))) ∙ ap (λ us. map told_of (take i now) ++ us) (sym here') ∙ h.tells)

-- what is known of lengths
pub below : (i n k k' : ℕ) → i < n → n ≤ k → k' ≡ k → i < k'
below i n k k' low room same = omega arith

pub at_end : (i n : ℕ) → n ≤ i → i ≤ n → i ≡ n
at_end i n a b = omega arith

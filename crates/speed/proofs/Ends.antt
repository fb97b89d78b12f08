-- When a game is over, slot by slot.
use Rattle.std.proofs.Common.{◌≡◌, ℕ, zero, suc, ◌+◌, ◌<◌, true, false, List, [], ◌∷◌, length, sym, refl, ap, ◌∙◌, ⊎_elim, arith}
use Rattle.std.proofs.lemmas.Bool.{cases_Bool, and_from, and_parts, or_cases, or_left, or_right, eqb-true, eq-eqb}
use Rattle.std.proofs.lemmas.List.Edits.{get_or-between, length-between}
use Rattle.interface.specs.Games.{State}
use Rattle.speed.specs.Places.{empty_slot, slot_at, at, hand}
use Rattle.speed.specs.Rules.{none_held, out_of_cards, over}
use Rattle.speed.specs.Laws.{WithoutCards}

none_held_from : (xs : List ℕ) → ((k : ℕ) → k < length xs → at xs k ≡ empty_slot) → none_held xs ≡ true
none_held_from [] each = refl
none_held_from (x ∷ xs) each = and_from _ _ (eq-eqb _ _ (each 0 (omega arith))) (none_held_from xs (λ k h. each (suc k) (omega arith)))

none_held_each : (xs : List ℕ) → none_held xs ≡ true → (k : ℕ) → k < length xs → at xs k ≡ empty_slot
none_held_each [] none k h = absurd (omega arith)
none_held_each (x ∷ xs) none zero h = eqb-true _ _ (and_parts _ _ none).0
none_held_each (x ∷ xs) none (suc k) h = none_held_each xs (and_parts _ _ none).1 k (omega arith)

module _ (w : State) (wide : length w ≡ 68) (seat : ℕ) (h : seat < 2) where
  five : length (hand w seat) ≡ 5
  five = length-between w (slot_at seat 0) (slot_at seat 5) (omega arith) ∙ omega arith

  held : (slot : ℕ) → slot < 5 → at (hand w seat) slot ≡ at w (slot_at seat slot)
  held slot g = let e : slot_at seat 0 + slot ≡ slot_at seat slot = omega arith in get_or-between w (slot_at seat 0) (slot_at seat 5) slot 0 (omega arith) ∙ ap (at w) e

  pub out_from : WithoutCards w seat → out_of_cards w seat ≡ true
  out_from none =
      and_from _ _ (eq-eqb _ _ none.0) (none_held_from (hand w seat) (λ k g. let below : k < 5 = omega (arith, five) in held k below ∙ none.1 k below))

  pub out_means : out_of_cards w seat ≡ true → WithoutCards w seat
  out_means is_out =
      let both = and_parts _ _ is_out in
      (eqb-true _ _ both.0, λ slot g. sym (held slot g) ∙ none_held_each (hand w seat) both.1 slot (omega (arith, five)))

pub over_from : (w : State) → length w ≡ 68 → (seat : ℕ) → seat < 2 → WithoutCards w seat → over w ≡ true
unfolding over
over_from w wide zero h none = or_left _ _ (out_from w wide 0 h none)
over_from w wide (suc zero) h none = or_right _ _ (out_from w wide 1 h none)
over_from w wide (suc (suc n)) h none = absurd (omega arith)

pub goes_on_from : (w : State) → length w ≡ 68 → ((seat : ℕ) → seat < 2 → WithoutCards w seat → ⊥) → over w ≡ false
unfolding over
goes_on_from w wide neither =
    ⊎_elim
    (λ ended. absurd (⊎_elim (λ e. neither 0 (omega arith) (out_means w wide 0 (omega arith) e)) (λ e. neither 1 (omega arith) (out_means w wide 1 (omega arith) e)) (or_cases _ _ ended)))
    (λ e. e)
    (cases_Bool (over w))

-- The search for the lowest changed frame, and the putting of new inputs, step by step.
use Rattle.std.proofs.Common.{◌≡◌, ℕ, suc, ◌+◌, ◌-◌, ◌%◌, ◌<◌, ◌≤◌, Bool, true, cond, eqb, List, set, sym, ap, ◌∙◌, arith}
use Rattle.std.proofs.lemmas.Bool.{eq-eqb, ne_eqb}
use Rattle.frames.specs.Queue.{slots_after}
use Rattle.plain.specs.States.{first_difference}
use Rattle.rollback.specs.Inputs.{put_all}

module _ (f g : ℕ → ℕ) (p whole : ℕ) where
  search_at : (k : ℕ) → k < p → first_difference f g k (p - k) ≡ cond (eqb (f k) (g k)) (first_difference f g (k + 1) (p - (k + 1))) k
  search_at k h =
      let more : p - k ≡ suc (p - (k + 1)) = omega arith in
      ap (first_difference f g k) more

  pub search_stop : (k : ℕ) → k < p → (f k ≡ g k → ⊥) → first_difference f g k (p - k) ≡ whole → k ≡ whole
  search_stop k h differ inv =
      sym (ap (λ b. cond b (first_difference f g (k + 1) (p - (k + 1))) k) (ne_eqb (f k) (g k) differ)) ∙ sym (search_at k h) ∙ inv

  pub search_more : (k : ℕ) → k < p → f k ≡ g k → first_difference f g k (p - k) ≡ whole → first_difference f g (k + 1) (p - (k + 1)) ≡ whole
  search_more k h same inv =
      sym (ap (λ b. cond b (first_difference f g (k + 1) (p - (k + 1))) k) (eq-eqb (f k) (g k) same)) ∙ sym (search_at k h) ∙ inv

  pub search_end : (k : ℕ) → p ≤ k → first_difference f g k (p - k) ≡ whole → k ≡ whole
  search_end k h inv =
      let none : p - k ≡ 0 = omega arith in
      sym (ap (first_difference f g k) none) ∙ inv

module _ {I : Type 0} (f : ℕ → I) where
  -- one input more
  pub put_more : (slots slots' : List I) (k e : ℕ) (x : I) (may : Bool) → k < e → may ≡ true → x ≡ f k → slots' ≡ slots_after may slots k x → put_all slots' (k + 1) (e - (k + 1)) f ≡ put_all slots k (e - k) f
  put_more slots slots' k e x may h allowed is put =
      let more : e - k ≡ suc (e - (k + 1)) = omega arith in
      let here : slots' ≡ set slots (k % 32) (f k) = put ∙ ap (λ b. slots_after b slots k x) allowed ∙ ap (set slots (k % 32)) is in
      ap (λ s. put_all s (k + 1) (e - (k + 1)) f) here ∙ sym (ap (λ n. put_all slots k n f) more)

  pub put_none : (slots : List I) (k e : ℕ) → e ≤ k → put_all slots k (e - k) f ≡ slots
  put_none slots k e h =
      let none : e - k ≡ 0 = omega arith in
      ap (λ n. put_all slots k n f) none

-- What is held once newly known inputs are put into their slots.
use Rattle.std.proofs.Common.{◌≡◌, ℕ, zero, suc, ◌+◌, ◌-◌, ◌%◌, ◌<◌, ◌≤◌, max, cond, List, length, set, Some, unwrap_or, sym, refl, ap, ◌∙◌, ⊎_elim, arith, length-set}
use Rattle.std.specs.List.{slice_get}
use Rattle.std.proofs.lemmas.Bool.Decides.{nat_tests}
use Rattle.std.proofs.lemmas.Bool.{lt-ltb, le-ltb, cases_eq}
use Rattle.interface.proofs.Slots.{slice_get-set_same, slice_get-set_other}
use Rattle.frames.specs.Queue.{held}
use Rattle.rollback.specs.Inputs.{Setting, Inputs, input_at, other_at, sent_at, put_all, caught_up}

module _ {I : Type 0} (f : ℕ → I) where
  pub put_all_long : (slots : List I) (k n : ℕ) → length (put_all slots k n f) ≡ length slots
  put_all_long slots k zero = refl
  put_all_long slots k (suc n) = put_all_long (set slots (k % 32) (f k)) (k + 1) n ∙ length-set slots (k % 32) (f k)

  -- an older frame that is still held reads as before
  pub put_all_before : (slots : List I) (k n h : ℕ) → h < k → k + n ≤ h + 32 → slice_get (put_all slots k n f) (h % 32) ≡ slice_get slots (h % 32)
  put_all_before slots k zero h low near = refl
  put_all_before slots k (suc n) h low near =
      put_all_before (set slots (k % 32) (f k)) (k + 1) n h (omega arith) (omega arith)
      ∙ slice_get-set_other slots (k % 32) (h % 32) (f k) (omega arith)

  -- a new frame reads what was put
  pub put_all_new : (slots : List I) (k n h : ℕ) → length slots ≡ 32 → n ≤ 32 → k ≤ h → h < k + n → slice_get (put_all slots k n f) (h % 32) ≡ Some (f h)
  put_all_new slots k zero h long few low high = absurd (omega arith)
  put_all_new slots k (suc n) h long few low high =
      ⊎_elim
      (λ same.
      let here : slice_get (set slots (k % 32) (f k)) (k % 32) ≡ Some (f k) = slice_get-set_same slots (k % 32) (f k) (omega arith) in
      let kept = put_all_before (set slots (k % 32) (f k)) (k + 1) n k (omega arith) (omega arith) in
      ap (λ x. slice_get (put_all (set slots (k % 32) (f k)) (k + 1) n f) (x % 32)) same ∙ kept ∙ here ∙ ap (λ x. Some (f x)) (sym same))
      (λ apart. put_all_new (set slots (k % 32) (f k)) (k + 1) n h (length-set slots (k % 32) (f k) ∙ long) (omega arith) (omega arith) (omega arith))
      (cases_eq h k)

-- what is held at its slot
pub held_is : {I : Type 0} (slots : List I) (next h : ℕ) (x : I) → length slots ≡ 32 → h < next → next ≤ h + 32 → slice_get slots (h % 32) ≡ Some x → held slots next h ≡ Some x
held_is slots next h x long low near e = grind (arith, nat_tests)

module _ {I : Type 0} (g : Setting I) (q : Inputs I) (codes : List ℕ) (start : ℕ) (whole : length q.others ≡ 32) (few : length codes ≤ 32) (starts : start ≤ q.known) where
  abbrev new : List I
  new = put_all q.others q.known (start + length codes - q.known) (sent_at g codes start)

  abbrev end : ℕ
  end = max q.known (start + length codes)

  -- a frame that the datagram has a code for
  new_input : (h : ℕ) → q.known ≤ h → h < start + length codes → input_at g new end h ≡ sent_at g codes start h
  new_input h low high =
      let n = start + length codes - q.known in
      let there = put_all_new (sent_at g codes start) q.others q.known n h whole (omega arith) low (omega arith) in
      let long = put_all_long (sent_at g codes start) q.others q.known n ∙ whole in
      ap (λ o. unwrap_or o g.idle) (held_is new end h (sent_at g codes start h) long (omega arith) (omega arith) there)

  pub fresh_sent : (h : ℕ) → q.known ≤ h → h < start + length codes → other_at g (caught_up g q codes start) h ≡ sent_at g codes start h
  fresh_sent h low high =
      let below : h < end = omega arith in
      ap (λ b. cond b (input_at g new end h) (g.guessed (input_at g new end (end - 1)) (h + 1 - end))) (lt-ltb h end below) ∙ new_input h low high

  pub fresh_guess : (h : ℕ) → q.known < start + length codes → start + length codes ≤ h → other_at g (caught_up g q codes start) h ≡ g.guessed (sent_at g codes start (start + length codes - 1)) (h + 1 - (start + length codes))
  fresh_guess h more past =
      let above : end ≤ h = omega arith in
      let is : end ≡ start + length codes = omega arith in
      let last : input_at g new end (end - 1) ≡ sent_at g codes start (start + length codes - 1) = new_input (end - 1) (omega arith) (omega arith) ∙ ap (λ x. sent_at g codes start (x - 1)) is in
      ap (λ b. cond b (input_at g new end h) (g.guessed (input_at g new end (end - 1)) (h + 1 - end))) (le-ltb h end above)
      ∙ ap (λ x. g.guessed x (h + 1 - end)) last
      ∙ ap (λ x. g.guessed (sent_at g codes start (start + length codes - 1)) (h + 1 - x)) is

  pub fresh_same : start + length codes ≤ q.known → caught_up g q codes start ≡ q
  fresh_same past =
      let none : start + length codes - q.known ≡ 0 = omega arith in
      let same : end ≡ q.known = omega arith in
      λ i. record { own = q.own; played = q.played; others = put_all q.others q.known (none i) (sent_at g codes start); known = same i }

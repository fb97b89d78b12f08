-- What a call's result is, as code comes by it: a check that fails, or the seat's own call.
use Rattle.std.proofs.Common.{◌≡◌, ℕ, ◌+◌, Bool, true, false, ltb, length, set, Some, None, sym, ap, ◌∙◌, arith}
use Rattle.interface.specs.declared.answers.Refusal.{Refusal}
use Rattle.interface.specs.declared.answers.Refusal.TheVariants.{BadFrame, NoSuchSeat}
use Rattle.interface.specs.Answers.{accepted, number_of}
use Rattle.datagram.specs.Layout.{bytes_of}
use Rattle.plain.specs.Match.{other, answered, unless_refused}
use Rattle.rollback.specs.Inputs.{Setting}
use Rattle.seat.specs.Views.{View, rightly_lent}
use Rattle.seat.specs.Calls as calls
use Rattle.refine.specs.Setup.{Setup, setting_of}
use Rattle.refine.specs.Memory.{Entry, Memory, seat, put_seat, entry, datagram}
use Rattle.refine.specs.Outcomes.{Call, Pressing, Sending, Taking, outcome, numbered, log_check, check, written, appended, made, result}
use Rattle.refine.proofs.Logging.{put_same, seat_kept, same_memory}

module _ {I : Type 0} (a : Setup I) (b : Memory I) (n : ℕ) where
  pub result_refused : (c : Call) (why : Refusal) → check b n c ≡ Some why → result a b n c ≡ outcome b (number_of why) 0
  unfolding result
  result_refused c why e = grind arith

  pub result_made : (c : Call) → check b n c ≡ None → result a b n c ≡ made a b (numbered n) c
  unfolding result
  result_made c e = grind arith

  -- 21
  pub no_such_seat : (c : Call) → ltb 1 n ≡ true → result a b n c ≡ outcome b (number_of NoSuchSeat) 0
  no_such_seat c e = result_refused c NoSuchSeat (grind arith)

  module _ (is_seat : ltb 1 n ≡ false) where
    -- 20
    pub bad_slots : (c : Call) → rightly_lent (seat b (numbered n)) ≡ false → result a b n c ≡ outcome b (number_of BadFrame) 0
    bad_slots c wrong = result_refused c BadFrame (grind arith)

    pub check_log : (c : Call) → rightly_lent (seat b (numbered n)) ≡ true → check b n c ≡ log_check b (numbered n) c
    check_log c right = grind arith

    -- a press is all the seat's: it checks its slots itself
    pub press_by_seat : (code : ℕ) → result a b n (Pressing code) ≡ made a b (numbered n) (Pressing code)
    press_by_seat code =
        let s = numbered n in
        let v = seat b s in
        let g = setting_of a s in
        let slots = bad_slots (Pressing code) in
        let passed = result_made (Pressing code) in
        grind (arith, check_log (Pressing code), put_same)

-- What code has to show of what it left, o, and answered: part by part.

module _ {I : Type 0} (a : Setup I) (b : Memory I) (n : ℕ) (is_seat : ltb 1 n ≡ false) (o : Memory I) (same_other : seat o (other (numbered n)) ≡ seat b (other (numbered n))) where
  abbrev s : Bool
  s = numbered n

  abbrev g : Setting I
  g = setting_of a s

  -- the acting seat alone has changed
  put_is : (v : View I) → seat o s ≡ v → o.log ≡ b.log → o.sent ≡ b.sent → o ≡ put_seat b s v
  put_is v acting log sent = grind (arith, same_memory)

  pub press_result : (code answer : ℕ) → seat o s ≡ calls.press_leaves g (seat b s) code → o.log ≡ b.log → o.sent ≡ b.sent → answer ≡ calls.press_answer g (seat b s) code → outcome o answer 0 ≡ result a b n (Pressing code)
  press_result code answer acting log sent told =
      ap (λ x. outcome x answer 0) (put_is (calls.press_leaves g (seat b s) code) acting log sent)
      ∙ ap (λ k. outcome (put_seat b s (calls.press_leaves g (seat b s) code)) k 0) told
      ∙ sym (press_by_seat a b n is_seat code)

  module _ (right : rightly_lent (seat b s) ≡ true) where
    pub take_result : (k answer frames : ℕ) → log_check b s (Taking k) ≡ None → let bytes = datagram (entry b k) in seat o s ≡ calls.take_leaves g (seat b s) bytes → o.log ≡ b.log → o.sent ≡ b.sent → answer ≡ (calls.take_answer g (seat b s) bytes).0 → frames ≡ (calls.take_answer g (seat b s) bytes).1 → outcome o answer frames ≡ result a b n (Taking k)
    take_result k answer frames passed acting log sent told counted =
        let bytes = datagram (entry b k) in
        let left = put_seat b s (calls.take_leaves g (seat b s) bytes) in
        ap (λ x. outcome x answer frames) (put_is (calls.take_leaves g (seat b s) bytes) acting log sent)
        ∙ ap (λ x. outcome left x frames) told
        ∙ ap (λ x. outcome left (calls.take_answer g (seat b s) bytes).0 x) counted
        ∙ sym (result_made a b n (Taking k) (check_log a b n is_seat (Taking k) right ∙ passed))

    module _ (acting : seat o s ≡ seat b s) (free : log_check {I = I} b s Sending ≡ None) where
      abbrev e : Entry
      e = entry b b.sent

      sending : result a b n Sending ≡ made a b s Sending
      sending = result_made a b n Sending (check_log a b n is_seat Sending right ∙ free)

      -- the seat wrote its datagram
      pub send_result : calls.send_refusal g (seat b s) e.bytes ≡ None → o.log ≡ set b.log b.sent (written a (seat b s) s e) → o.sent ≡ b.sent + 1 → outcome o accepted 0 ≡ result a b n Sending
      send_result none log sent =
          let told : (calls.send_answer g (seat b s) e.bytes).0 ≡ accepted = ap (λ x. (unless_refused {X = ℕ × ℕ} x (answered x, 0) (accepted, length (bytes_of (calls.to_send g (seat b s))))).0) none in
          let b' : Memory I = record { seat_0 = b.seat_0; seat_1 = b.seat_1; log = set b.log b.sent (written a (seat b s) s e); sent = b.sent + 1 } in
          let kept = λ (t : Bool). seat_kept b (set b.log b.sent (written a (seat b s) s e)) (b.sent + 1) t in
          let is : o ≡ b' = same_memory o b' s (acting ∙ sym (kept s)) (same_other ∙ sym (kept (other s))) log sent in
          let added : appended a b s ≡ b' = ap (λ x. unless_refused x b b') none in
          ap (λ x. outcome x accepted 0) (is ∙ sym added) ∙ ap (λ k. outcome (appended a b s) k 0) (sym told) ∙ sym sending

      -- or it did not, and all is as it was
      pub send_result_refused : (why : Refusal) (answer : ℕ) → calls.send_refusal g (seat b s) e.bytes ≡ Some why → answer ≡ number_of why → o.log ≡ b.log → o.sent ≡ b.sent → outcome o answer 0 ≡ result a b n Sending
      send_result_refused why answer refused number log sent =
          let told : answer ≡ (calls.send_answer g (seat b s) e.bytes).0 = number ∙ sym (ap (λ x. (unless_refused {X = ℕ × ℕ} x (answered x, 0) (accepted, length (bytes_of (calls.to_send g (seat b s))))).0) refused) in
          let b' : Memory I = record { seat_0 = b.seat_0; seat_1 = b.seat_1; log = set b.log b.sent (written a (seat b s) s e); sent = b.sent + 1 } in
          let stays : appended a b s ≡ b = ap (λ x. unless_refused x b b') refused in
          ap (λ x. outcome x answer 0) (same_memory o b s acting same_other log sent ∙ sym stays) ∙ ap (λ k. outcome (appended a b s) k 0) told ∙ sym sending

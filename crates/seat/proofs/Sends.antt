-- A send, from what writing its datagram answers; and that it sends only what is held.
use Rattle.std.proofs.Common.{◌≡◌, ℕ, ◌+◌, ◌-◌, ◌%◌, ◌<◌, ◌≤◌, min, Bool, true, false, cond, List, ◌++◌, map, length, get_or, drop, Some, None, unwrap_or, sym, refl, ap, ◌∙◌, arith}
use Rattle.std.specs.List.{range_with_len}
use Rattle.std.proofs.lemmas.List.FromFn.{length-map-range_with_len, get_or-map-range_with_len}
use Rattle.std.proofs.lemmas.Option.{slice_get-get_or}
use Rattle.frames.specs.Queue.{held}
use Rattle.interface.specs.declared.answers.Refusal.TheVariants.{BufferTooShort}
use Rattle.datagram.specs.Fields.{Fields}
use Rattle.datagram.specs.Layout.{bytes_of}
use Rattle.datagram.specs.Writing.{too_short, write_leaves}
use Rattle.plain.specs.Match.{unless_refused}
use Rattle.rollback.specs.Inputs.{Setting, input_at}
use Rattle.rollback.proofs.Fresh.{held_is}
use Rattle.seat.specs.Views.{View, rightly_lent}
use Rattle.seat.specs.Calls.{to_send, send_refusal, send_leaves}
use Rattle.seat.specs.Laws.{SendsHeld}
use Rattle.seat.proofs.Checks.{slots_given, each_whole}

module _ {I : Type 0} (g : Setting I) (v : View I) (old after : List ℕ) (given : rightly_lent v ≡ true) (d : Fields) (is : d ≡ to_send g v) (leaves : after ≡ write_leaves d old) where
  refusal_is : (b : Bool) → too_short d old ≡ b → send_refusal g v old ≡ cond b (Some BufferTooShort) None
  refusal_is b e = slots_given v _ given ∙ ap (λ t. cond t (Some BufferTooShort) None) (ap (λ x. too_short x old) (sym is) ∙ e)

  -- what writing leaves is what the send leaves
  pub sent_leaves : after ≡ send_leaves g v old
  sent_leaves = go (too_short d old) refl
    where
      go : (b : Bool) → too_short d old ≡ b → after ≡ send_leaves g v old
      go true e = leaves ∙ ap (λ b. cond b old (bytes_of d ++ drop (length (bytes_of d)) old)) e ∙ sym (ap (λ o. unless_refused o old (write_leaves (to_send g v) old)) (refusal_is true e))
      go false e = leaves ∙ ap (λ x. write_leaves x old) is ∙ sym (ap (λ o. unless_refused o old (write_leaves (to_send g v) old)) (refusal_is false e))

-- a frame among the last 32 is held
held_some : {T : Type 0} (xs : List T) (next f : ℕ) (d : T) → length xs ≡ 32 → f < next → next ≤ f + 32 → held xs next f ≡ Some (unwrap_or (held xs next f) d)
held_some xs next f d long low near =
    let there : held xs next f ≡ Some (get_or xs (f % 32) d) = held_is xs next f (get_or xs (f % 32) d) long low near (slice_get-get_or xs (f % 32) d (omega arith)) in
    there ∙ sym (ap (λ o. Some (unwrap_or o d)) there)

pub sends_held : {I : Type 0} (g : Setting I) (v : View I) → v.acknowledged ≤ v.played → v.played ≤ v.acknowledged + 32 → v.played ≤ v.known + 8 → rightly_lent v ≡ true → SendsHeld g v
sends_held g v within few near given =
    let whole = each_whole v given in
    let F : ℕ → ℕ = λ f. g.code (input_at g v.own v.played f) in
    let long = length-map-range_with_len F v.acknowledged (v.played - v.acknowledged) in
    record {
      digest = held_some v.digests (v.played + 1) (min v.played v.known) 0 whole.2 (omega arith) (omega arith);
      count = omega arith;
      codes = λ f low high. (
        input_at g v.own v.played f,
        held_some v.own v.played f g.idle whole.0 high (omega arith),
        slice_get-get_or (map F (range_with_len v.acknowledged (v.played - v.acknowledged))) (f - v.acknowledged) 0 (omega arith) ∙ ap Some (get_or-map-range_with_len F v.acknowledged (v.played - v.acknowledged) (f - v.acknowledged) f 0 (omega arith) (omega arith)),
      );
    }

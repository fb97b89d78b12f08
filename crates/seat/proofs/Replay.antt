-- The frames that a take replays, in the words of Laws.
use Rattle.std.proofs.Common.{◌≡◌, ℕ, ◌+◌, ◌-◌, ◌%◌, ◌<◌, ◌≤◌, max, List, length, unwrap_or, sym, refl, ap, ◌∙◌, subst, arith}
use Rattle.std.specs.List.{slice_get}
use Rattle.std.proofs.lemmas.Bool.Decides.{nat_tests}
use Rattle.frames.specs.Queue.{held}
use Rattle.datagram.specs.Fields.{Fields}
use Rattle.plain.proofs.Replaying.{first_from, first_to, same_below_first, differ_at_first}
use Rattle.rollback.specs.Inputs.{Setting, input_at, other_at, sent_at, lowest_change}
use Rattle.rollback.proofs.Fresh.{put_all_long, put_all_before}
use Rattle.seat.specs.Views.{View, inputs}
use Rattle.seat.specs.Calls.{fresh_inputs, frames_replayed, caught}
use Rattle.seat.specs.Laws.{Replays}

-- where nothing is changed
pub replays_nothing : {I : Type 0} (g : Setting I) (v w : View I) → v ≡ w → Replays g v w 0
replays_nothing g v w e = subst (λ x. Replays g v x 0) e (record {
  within = omega arith;
  unknown = omega arith;
  starts_at_a_change = λ h. absurd (omega arith);
  no_change_below = λ f low high. refl;
  known_stays = λ f low near. refl;
  known_grows = omega arith;
  acknowledged_grows = omega arith;
})

-- an older frame that is still held reads as before
held_stays : {I : Type 0} (slots slots' : List I) (next next' f : ℕ) → length slots ≡ 32 → length slots' ≡ 32 → f < next → next ≤ next' → next' ≤ f + 32 → slice_get slots' (f % 32) ≡ slice_get slots (f % 32) → held slots' next' f ≡ held slots next f
held_stays slots slots' next next' f long long' low grows near same = grind (arith, nat_tests)

module _ {I : Type 0} (g : Setting I) (v : View I) (d : Fields) (whole : length v.others ≡ 32) where
  -- what a view after an accepted take has
  pub record After (w : View I) : Type 0 where
    pub fresh : inputs w ≡ fresh_inputs g v d
    pub acknowledged : w.acknowledged ≡ max v.acknowledged d.acknowledgement

  pub replays_frames : (w : View I) (n : ℕ) → After w → n ≡ frames_replayed g v d → Replays g v w n
  replays_frames w n after is =
      let q = fresh_inputs g v d in
      let F : ℕ → ℕ = λ f. g.code (other_at g (inputs v) f) in
      let G : ℕ → ℕ = λ f. g.code (other_at g q f) in
      let low = lowest_change g (inputs v) q in
      let from : v.known ≤ low = first_from F G v.known (v.played - v.known) in
      let to : low ≤ v.known + (v.played - v.known) = first_to F G v.known (v.played - v.known) in
      let n_is : n ≡ v.played - low = is in
      let m = d.start + length d.codes - v.known in
      let known : w.known ≡ max v.known (d.start + length d.codes) = ap (λ x. x.known) after.fresh in
      let acknowledged = after.acknowledged in
      record {
        within = omega arith;
        unknown = omega arith;
        starts_at_a_change = λ some same.
            let at : v.played - n ≡ low = omega arith in
            differ_at_first F G v.known (v.played - v.known) (omega arith)
            (sym (ap F at) ∙ same ∙ ap (λ x. g.code (other_at g x (v.played - n))) after.fresh ∙ ap G at);
        no_change_below = λ f above below. same_below_first F G v.known (v.played - v.known) f above (omega arith) ∙ sym (ap (λ x. g.code (other_at g x f)) after.fresh);
        known_stays = λ f below near.
            let near' : max v.known (d.start + length d.codes) ≤ f + 32 = omega arith in
            ap (λ x. input_at g x.others x.known f) after.fresh
            ∙ ap (λ o. unwrap_or o g.idle) (held_stays v.others q.others v.known q.known f whole (put_all_long (sent_at g d.codes d.start) v.others v.known m ∙ whole) below (omega arith) near' (put_all_before (sent_at g d.codes d.start) v.others v.known m f below (omega arith)));
        known_grows = omega arith;
        acknowledged_grows = omega arith;
      }

  pub after_caught : After (caught g v d)
  unfolding caught
  after_caught = record { fresh = refl; acknowledged = refl }

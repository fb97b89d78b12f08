-- A press leaves a seat that stands.
use Rattle.std.proofs.Common.{◌≡◌, ℕ, suc, ◌+◌, ◌%◌, ◌<◌, Bool, List, [], ◌∷◌, ◌++◌, get_or, take, set, sym, refl, ap, ◌∙◌, subst, arith}
use Rattle.std.proofs.lemmas.List.{take-take, get_or_push, get_or_append_left, length_push}
use Rattle.interface.specs.Digest.{digest_of}
use Rattle.interface.specs.Games.{State}
use Rattle.plain.specs.Rules.{Rules}
use Rattle.plain.specs.Match.{Side, Plain, other, side, played, known, acknowledged, pressed}
use Rattle.plain.specs.States.{true_input, plain_state, down_from, listed}
use Rattle.plain.specs.Laws.{Counts}
use Rattle.plain.proofs.Counting.{acknowledged_at_most_played}
use Rattle.plain.proofs.Walks.{down_same}
use Rattle.plain.proofs.Changes.{press_keeps_moved}
use Rattle.rollback.specs.Inputs.{Inputs}
use Rattle.rollback.specs.Replay.{kept_states, frame_at}
use Rattle.seat.specs.Views.{View}
use Rattle.seat.specs.Calls as calls
use Rattle.refine.specs.Setup.{Setup, rules, setting_of}
use Rattle.refine.specs.Standing.{Holds, SeatStands}
use Rattle.refine.proofs.Queues.{Upto, upto_holds, holds_upto, upto_put, holds_same, holds_reads}
use Rattle.refine.proofs.Frames.{other_same, Fed, Midway, one_frame}
use Rattle.refine.proofs.Seats.{own_side, other_side, stood, SlotsHold}

step_on : {X : Type 0} (g : ℕ → X) (n : ℕ) → take 9 (g (suc n) ∷ take 9 (down_from g n)) ≡ take 9 (down_from g (suc n))
step_on g n = ap (λ xs. g (suc n) ∷ xs) (take-take 8 9 (down_from g n) (omega arith))

module _ {I : Type 0} (a : Setup I) (p : Plain I) (s : Bool) (x : I) where
  abbrev r : Rules State I
  r = rules a

  abbrev q : Plain I
  q = pressed p s x

  abbrev d : Side I
  d = record { inputs = (side p s).inputs ++ x ∷ []; known_frames = known p s; acknowledged_frames = acknowledged p s }

  longer : played q s ≡ played p s + 1
  longer = grind (arith, length_push)

  pressed_before : (k : ℕ) → k < played p s → true_input r q s k ≡ true_input r p s k
  pressed_before k low = grind (arith, get_or_append_left)

  pressed_new : true_input r q s (played p s) ≡ x
  pressed_new = grind (arith, get_or_push)

  module _ (match_number : ℕ) (own others : List I) (digests : List ℕ) (counts : (t : Bool) → Counts p t) (holds : SlotsHold r match_number p s own others digests) where
    abbrev v : View I
    v = stood r match_number p s own others digests

    abbrev news : Inputs I
    news = calls.pressed_inputs (setting_of a s) v x

    own_grown : Holds (set own (played p s % 32) x) (played p s + 1) (true_input r q s)
    own_grown = upto_holds _ _ _ (upto_put own (played p s + 1) (played p s) (true_input r q s) x (omega arith) (sym pressed_new) (holds_upto own (played p s) (played p s + 1) (played p s) _ _ (omega arith) (omega arith) pressed_before holds.own_hold))

    others_grown : Holds others (known p s) (true_input r q (other s))
    others_grown = holds_same others (known p s) _ _ (λ k _. ap (λ (e : Side I). get_or e.inputs k a.idle) (other_side p s d)) holds.others_hold

    same_known : known p s ≡ known q s
    same_known = grind arith

    same_played : played q (other s) ≡ played p (other s)
    same_played = grind arith

    fed : Fed a q s news (played p s)
    fed =
        let e = same_known in
        let l = same_played in
        record {
          own_input = holds_reads news.own (played p s + 1) (played p s) (true_input r q s) a.idle (omega arith) (omega arith) own_grown;
          others_input = other_same a q s news same_known (omega (arith, (counts s).known_was_played)) others_grown (played p s) (omega (arith, counts s, acknowledged_at_most_played p counts s));
        }

    -- the states and digests after frame P
    played_on : Midway a q s news (played p s + 2) (played p s + 1) 9 (frame_at (setting_of a s) s news (played p s) (kept_states (listed r p s) digests))
    played_on =
        one_frame a q s news (played p s + 2) (played p s) 9 9 (kept_states (listed r p s) digests) (omega arith) (omega arith) (step_on (plain_state r q s) (played p s)) (omega arith) fed
        (record {
          lists = ap (take 9) (sym (down_same (plain_state r p s) (plain_state r q s) (played p s) (λ k low. press_keeps_moved r p s x k low)));
          digests_upto = holds_upto digests (played p s + 1) (played p s + 2) (played p s + 1) _ _ (omega arith) (omega arith) (λ k low. ap digest_of (press_keeps_moved r p s x k (omega arith))) holds.digests_hold;
        })

    pub press_stands : SeatStands r match_number q s (calls.pressed (setting_of a s) v x)
    unfolding calls.pressed
    press_stands =
        let two : played p s + 2 ≡ played p s + 1 + 1 = omega arith in
        let k = frame_at (setting_of a s) s news (played p s) (kept_states (listed r p s) digests) in
        record {
          its_seat = refl;
          its_number = refl;
          its_played = sym longer;
          its_known = same_known;
          its_acknowledged = sym (ap (λ (e : Side I). e.acknowledged_frames) (own_side p s d));
          not_parted = refl;
          its_states = played_on.lists ∙ ap (λ n. take 9 (down_from (plain_state r q s) n)) (sym longer);
          own_held = own_grown;
          others_held = others_grown;
          digests_held = upto_holds k.digests (played p s + 1 + 1) _ (subst (λ n. Upto k.digests n (played p s + 1 + 1) (λ n. digest_of (plain_state r q s n))) two played_on.digests_upto);
        }

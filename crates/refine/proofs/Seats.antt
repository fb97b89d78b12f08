-- A seat that stands, whole, and one that a turn of the other leaves.
use Rattle.std.proofs.Common.{◌≡◌, ℕ, ◌+◌, Bool, false, List, length, get_or, take, sym, ap, ◌∙◌, arith}
use Rattle.interface.specs.Digest.{digest_of}
use Rattle.interface.specs.Games.{State}
use Rattle.interface.specs.Limits.{most_listed}
use Rattle.plain.specs.Rules.{Rules}
use Rattle.plain.specs.Match.{Side, Plain, other, side, put, played, known, acknowledged}
use Rattle.plain.specs.States.{true_input, plain_state, down_from, listed}
use Rattle.plain.specs.Laws.{Counts}
use Rattle.plain.proofs.Growth.{Grown}
use Rattle.plain.proofs.Walks.{down_same}
use Rattle.seat.specs.Views.{View}
use Rattle.refine.specs.Standing.{Holds, SeatStands}
use Rattle.refine.proofs.Queues.{holds_same}

module _ {I : Type 0} where
  pub own_side : (p : Plain I) (s : Bool) (d : Side I) → side (put p s d) s ≡ d
  own_side p s d = grind arith

  pub other_side : (p : Plain I) (s : Bool) (d : Side I) → side (put p s d) (other s) ≡ side p (other s)
  other_side p s d = grind arith

module _ {I : Type 0} (r : Rules State I) (match_number : ℕ) where
  -- a seat that stands, with these slots
  abbrev pub stood : Plain I → Bool → List I → List I → List ℕ → View I
  stood p s own others digests = record { seat = s; match_number = match_number; played = played p s; known = known p s; acknowledged = acknowledged p s; parted = false; states = listed r p s; own = own; others = others; digests = digests }

  pub is_stood : (p : Plain I) (s : Bool) (v : View I) → SeatStands r match_number p s v → v ≡ stood p s v.own v.others v.digests
  is_stood p s v h i = record { seat = h.its_seat i; match_number = h.its_number i; played = h.its_played i; known = h.its_known i; acknowledged = h.its_acknowledged i; parted = h.not_parted i; states = h.its_states i; own = v.own; others = v.others; digests = v.digests }

  -- what holds of its slots
  pub record SlotsHold (p : Plain I) (s : Bool) (own others : List I) (digests : List ℕ) : Type 0 where
    pub own_hold : Holds own (played p s) (true_input r p s)
    pub others_hold : Holds others (known p s) (true_input r p (other s))
    pub digests_hold : Holds digests (played p s + 1) (λ n. digest_of (plain_state r p s n))

  pub slots_hold : (p : Plain I) (s : Bool) (v : View I) → SeatStands r match_number p s v → SlotsHold p s v.own v.others v.digests
  slots_hold p s v h = grind arith

  -- what is left by moves that change nothing of the seat
  pub still_stands : (p q : Plain I) (t : Bool) (v : View I) → side q t ≡ side p t → Grown p q → Counts p t → ((n : ℕ) → plain_state r q t n ≡ plain_state r p t n) → SeatStands r match_number p t v → SeatStands r match_number q t v
  still_stands p q t v same grown counts states h =
      record {
        its_seat = h.its_seat;
        its_number = h.its_number;
        its_played = h.its_played ∙ sym (ap (λ (d : Side I). length d.inputs) same);
        its_known = h.its_known ∙ sym (ap (λ (d : Side I). d.known_frames) same);
        its_acknowledged = h.its_acknowledged ∙ sym (ap (λ (d : Side I). d.acknowledged_frames) same);
        not_parted = h.not_parted;
        its_states =
            h.its_states
            ∙ ap (take most_listed) (sym (down_same (plain_state r p t) (plain_state r q t) (played p t) (λ k _. states k)))
            ∙ ap (λ (d : Side I). take most_listed (down_from (plain_state r q t) (length d.inputs))) (sym same);
        own_held = holds_same v.own v.played _ _ (λ k _. ap (λ (d : Side I). get_or d.inputs k r.idle) same) h.own_held;
        others_held = holds_same v.others v.known _ _ (λ k below. (grown.sides (other t)).same_inputs k r.idle (omega (arith, counts.known_was_played))) h.others_held;
        digests_held = holds_same v.digests (v.played + 1) _ _ (λ k _. ap digest_of (states k)) h.digests_held;
      }

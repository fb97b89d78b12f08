-- The press that is never refused.
use Rattle.std.proofs.Common.{◌≡◌, ℕ, ◌+◌, ◌<◌, ◌≤◌, Bool, true, List, length, Some, None, sym, ap, ◌∙◌, subst, inl, inr, ⊎_elim, arith}
use Rattle.std.proofs.lemmas.Bool.{cases_lt}
use Rattle.std.proofs.lemmas.Bool.Decides.{nat_tests}
use Rattle.interface.specs.Answers.{accepted}
use Rattle.interface.specs.Limits.{match_length, most_lead, most_unacknowledged}
use Rattle.plain.specs.Rules.{Rules}
use Rattle.plain.specs.Match.{Side, Note, Plain, Turn, Lent, Move, Press, Take, other, side, played, known, note, turn, seat_number, acting, rightly_lent, answered, taken, press_refusal, move_refusal, refusal, answer, run}
use Rattle.plain.specs.Turns.{Takes, HasTheLatest, CaughtUp}
use Rattle.plain.proofs.Steps.{accepted_only, turn_passes, take_passes}
use Rattle.plain.proofs.Counting.{sound}
use Rattle.plain.proofs.Happening.{upto, upto_grows, upto_later, all_played, accepted_leaves, send_notes}

module _ {S I : Type 0} (r : Rules S I) where
  -- what a take of it heard
  hears : (p : Plain I) (s : Bool) (n : Note) → n.end ≤ known (taken p s n) s
  hears p s n = grind arith

  take_hears : (ts : List Turn) (s : Bool) (j k : ℕ) → Takes r ts s j k → (k < length (upto r ts j).notes) × ((note (upto r ts j) k).end ≤ known (upto r ts (j + 1)) s)
  unfolding upto
  take_hears ts s j k h =
      let p = upto r ts j in
      let t = turn (seat_number s) h.lent (Take k h.records) in
      let left = accepted_leaves r ts j s h.lent (Take k h.records) h.is in
      let passed = (turn_passes r p t (accepted_only (refusal r p t) h.is.1)).2 in
      ((take_passes p (acting t) k h.records passed).1, subst (λ q. (note p k).end ≤ known q s) (sym left) (hears p s (note p k)))

  -- a seat that has the other's latest datagram knows all its inputs
  latest_is_all : (ts : List Turn) (s : Bool) → HasTheLatest r ts s → played (run r ts) (other s) ≤ known (run r ts) s
  latest_is_all ts s h =
      let i = h.sent_at in
      let j = h.taken_at in
      let k = h.datagram in
      let sent = send_notes r ts (other s) i k h.was_sent in
      let took = take_hears ts s j k h.was_taken in
      let order : i < j =
      ⊎_elim (λ less. less) (λ back. let g = (upto_grows r ts j i back).more_notes in absurd (omega arith)) (cases_lt i j) in
      let same = ap (λ (n : Note). n.end) ((upto_grows r ts (i + 1) j (omega arith)).same_notes k sent.0 ∙ sent.1) in
      let all = all_played r ts (other s) i h.after_every_press in
      let later = ((upto_later r ts (j + 1)).sides s).known_more in
      omega arith

  nothing_played : (ts : List Turn) (t : Bool) → played (upto r ts 0) t ≡ 0
  unfolding upto
  nothing_played ts t = grind arith

  caught_up_knows : (ts : List Turn) (s : Bool) → CaughtUp r ts s → played (run r ts) (other s) ≤ known (run r ts) s
  caught_up_knows ts s (inl latest) = latest_is_all ts s latest
  caught_up_knows ts s (inr none) = let all = all_played r ts (other s) 0 (λ j press. absurd (none j press)) in let zero_played = nothing_played ts (other s) in omega arith

  -- a press with no row of the table against it
  press_passes_all : (d : Side I) (code : ℕ) (x : I) → r.reads code ≡ Some x → (length d.inputs ≡ match_length → ⊥) → (length d.inputs ≡ d.known_frames + most_lead → ⊥) → (length d.inputs ≡ d.acknowledged_frames + most_unacknowledged → ⊥) → press_refusal r d code ≡ None
  press_passes_all d code x e a b c = grind (arith, nat_tests)

  seat_passes : (p : Plain I) (s : Bool) (l : Lent) (m : Move) → rightly_lent l ≡ true → move_refusal r p s m ≡ None → refusal r p (turn (seat_number s) l m) ≡ None
  seat_passes p s l m e none = grind (arith, nat_tests)

  pub press_goes_on : (end : ℕ) → end ≤ match_length → (ts : List Turn) (s : Bool) (l : Lent) (code : ℕ) (x : I) → CaughtUp r ts s → played (run r ts) s ≤ played (run r ts) (other s) → played (run r ts) s < end → rightly_lent l ≡ true → r.reads code ≡ Some x → answer r (run r ts) (turn (seat_number s) l (Press code)) ≡ accepted
  press_goes_on end within ts s l code x caught level room lent reads =
      let p = run r ts in
      let knows = caught_up_knows ts s caught in
      let c = (sound r ts).counts s in
      ap answered (seat_passes p s l (Press code) lent (press_passes_all (side p s) code x reads (λ e. omega arith) (λ e. omega arith) (λ e. omega arith)))

-- What a turn may do to a plain match, and a run turn by turn.
use Rattle.std.proofs.Common.{◌≡◌, ℕ, ◌+◌, ◌<◌, Bool, true, false, cond, eqb, ltb, List, [], ◌∷◌, ◌++◌, length, Some, None, Option, refl, ap, arith}
use Rattle.std.proofs.lemmas.Bool.Decides.{nat_tests}
use Rattle.interface.specs.declared.answers.Refusal.{Refusal}
use Rattle.interface.specs.Answers.{accepted, number_of}
use Rattle.interface.specs.Limits.{match_length, most_lead}
use Rattle.plain.specs.Rules.{Rules}
use Rattle.plain.specs.Match.{Side, Plain, Lent, Move, Press, Send, Take, Turn, other, side, played, known, note, turn, seat_number, acting, answered, unless_refused, rightly_lent, pressed, noted, taken, input_of, press_refusal, take_refusal, move_refusal, refusal, moved, after, onward, run}

-- no refusal has the number 0
pub above_0 : (why : Refusal) → 0 < number_of why
above_0 why = grind arith

pub accepted_only : (o : Option Refusal) → answered o ≡ accepted → o ≡ None
accepted_only o e = grind (arith, above_0)

-- where a row of the table does not apply, and the rows below it do not
pub passes : (b : Bool) (why : Refusal) (o : Option Refusal) → cond b (Some why) o ≡ None → (b ≡ false) × (o ≡ None)
passes b why o e = grind arith

pub is_a_seat : (n : ℕ) → ltb 1 n ≡ false → n ≡ seat_number (eqb n 1)
is_a_seat n e = grind (arith, nat_tests)

pub acting_seat : (s : Bool) → eqb (seat_number s) 1 ≡ s
acting_seat s = grind arith

-- the ways from a match to the next, with what was accepted
pub data Step {S I : Type 0} (r : Rules S I) (p : Plain I) (t : Turn) : Plain I → Type 0 where
  stays : (why : Refusal) → refusal r p t ≡ Some why → Step r p t p
  presses : (s : Bool) (l : Lent) (code : ℕ) → t ≡ turn (seat_number s) l (Press code) → refusal r p t ≡ None → r.reads code ≡ Some (input_of r code) → (played p s ≡ match_length → ⊥) → (played p s ≡ known p s + most_lead → ⊥) → Step r p t (pressed p s (input_of r code))
  sends : (s : Bool) (l : Lent) (records : ℕ) → t ≡ turn (seat_number s) l (Send records) → refusal r p t ≡ None → Step r p t (noted p s)
  takes : (s : Bool) (l : Lent) (k records : ℕ) → t ≡ turn (seat_number s) l (Take k records) → refusal r p t ≡ None → k < length p.notes → (note p k).sender ≡ other s → Step r p t (taken p s (note p k))

-- what an accepted turn has passed: its seat and its slots, then the rows of its move
module _ {S I : Type 0} (r : Rules S I) where
  pub turn_passes : (p : Plain I) (t : Turn) → refusal r p t ≡ None → (ltb 1 t.seat ≡ false) × (rightly_lent t.slots ≡ true) × (move_refusal r p (acting t) t.move ≡ None)
  turn_passes p t e = grind (arith, nat_tests)

  pub press_passes : (d : Side I) (code : ℕ) → press_refusal r d code ≡ None → (r.reads code ≡ Some (input_of r code)) × (length d.inputs ≡ match_length → ⊥) × (length d.inputs ≡ d.known_frames + most_lead → ⊥)
  press_passes d code e = grind (arith, nat_tests)

pub take_passes : {I : Type 0} (p : Plain I) (s : Bool) (k records : ℕ) → take_refusal p s k records ≡ None → (k < records) × (k < length p.notes) × ((note p k).sender ≡ other s)
take_passes p s k records e = grind (arith, nat_tests)

module _ {S I : Type 0} (r : Rules S I) (p : Plain I) where
  step_at : (n : ℕ) (l : Lent) (m : Move) (o : Option Refusal) → refusal r p (turn n l m) ≡ o → Step r p (turn n l m) (unless_refused o p (moved r p (eqb n 1) m))
  step_at n l m (Some why) e = stays why e
  step_at n l (Press code) None e =
      let a = turn_passes r p (turn n l (Press code)) e in
      let b = press_passes r (side p (eqb n 1)) code a.2 in
      presses (eqb n 1) l code (ap (λ (k : ℕ). turn k l (Press code)) (is_a_seat n a.0)) e b.0 b.1 b.2
  step_at n l (Send records) None e =
      let a = turn_passes r p (turn n l (Send records)) e in
      sends (eqb n 1) l records (ap (λ (k : ℕ). turn k l (Send records)) (is_a_seat n a.0)) e
  step_at n l (Take k records) None e =
      let a = turn_passes r p (turn n l (Take k records)) e in
      let b = take_passes p (eqb n 1) k records a.2 in
      takes (eqb n 1) l k records (ap (λ (i : ℕ). turn i l (Take k records)) (is_a_seat n a.0)) e b.1 b.2

  -- every turn is one of these
  pub step : (t : Turn) → Step r p t (after r p t)
  step t = step_at t.seat t.slots t.move (refusal r p t) refl

module _ {S I : Type 0} (r : Rules S I) where
  pub onward_append : (p : Plain I) (ts more : List Turn) → onward r p (ts ++ more) ≡ onward r (onward r p ts) more
  onward_append p [] more = refl
  onward_append p (t ∷ ts) more = onward_append (after r p t) ts more

  -- one turn more
  pub run_more : (ts : List Turn) (t : Turn) → run r (ts ++ t ∷ []) ≡ after r (run r ts) t
  run_more ts t = onward_append _ ts (t ∷ [])

  -- what every turn keeps, any turns keep
  pub keeps : (P : Plain I → Type 0) → ((p : Plain I) (t : Turn) → P p → P (after r p t)) → (p : Plain I) (ts : List Turn) → P p → P (onward r p ts)
  keeps P each p [] h = h
  keeps P each p (t ∷ ts) h = keeps P each (after r p t) ts (each p t h)

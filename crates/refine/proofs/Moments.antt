-- What the keepers list at the moments of a run, and the press that is never refused.
use Rattle.std.proofs.Common.{◌≡◌, ℕ, ◌+◌, ◌<◌, ◌≤◌, Bool, true, not, ltb, List, ◌++◌, Some, sym, ◌∙◌, subst, arith}
use Rattle.std.proofs.lemmas.Bool.{and_parts}
use Rattle.interface.specs.Answers.{accepted}
use Rattle.interface.specs.Games.{State}
use Rattle.interface.specs.Limits.{match_length, most_listed}
use Rattle.plain.specs.Rules.{Rules}
use Rattle.plain.specs.Match.{Plain, Turn, other, seat_number, run}
use Rattle.plain.specs.Match as plain
use Rattle.plain.specs.States.{truth}
use Rattle.plain.specs.Laws as laws
use Rattle.plain.specs.Turns.{CaughtUp}
use Rattle.plain.proofs.Confirming.{confirmed_hold, confirmed_is_true}
use Rattle.plain.proofs.Going.{press_goes_on}
use Rattle.plain.proofs.Walks.{lists, listed_is}
use Rattle.seat.specs.Views.{View, confirmed, rightly_lent}
use Rattle.refine.specs.Setup.{Setup, rules, Lawful}
use Rattle.refine.specs.Memory.{Memory, seat}
use Rattle.refine.specs.Outcomes.{Pressing, numbered, result, lent}
use Rattle.refine.specs.Standing.{SeatStands, Stands, well_brought, Brings}
use Rattle.refine.specs.Laws.{Lists, ListsConfirmed, Moments}
use Rattle.refine.proofs.Calling.{goes_on}

module _ {I : Type 0} (r : Rules State I) (match_number : ℕ) (p : Plain I) (s : Bool) (v : View I) (h : SeatStands r match_number p s v) where
  same_confirmed : confirmed v ≡ plain.confirmed p s
  same_confirmed = omega (arith, h.its_played, h.its_known)

  -- what the keeper lists, the plain match lists
  lists_plain : (n : ℕ) (x : State) → Lists v n x → laws.Lists r p s n x
  lists_plain n x l = grind (arith, h.its_played, h.its_states)

  plain_lists : (n : ℕ) (x : State) → laws.Lists r p s n x → Lists v n x
  plain_lists n x l = grind (arith, h.its_played, h.its_states)

module _ {I : Type 0} (a : Setup I) (match_number : ℕ) (ts : List Turn) where
  abbrev r : Rules State I
  r = rules a

  pub moments : (more : List Turn) (m m' : Memory I) → Stands a match_number ts m → Stands a match_number (ts ++ more) m' → Moments m m'
  moments more m m' g g' =
      let h = g.seats in
      let h' = g'.seats in
      let p = run r ts in
      let q = run r (ts ++ more) in
      let law = confirmed_hold r ts more in
      let now = λ (s : Bool). same_confirmed r match_number p s (seat m s) (h s) in
      let then = λ (s : Bool). same_confirmed r match_number q s (seat m' s) (h' s) in
      record {
        never_parts = λ s. (h s).not_parted;
        stays_confirmed = λ s. omega (arith, now s, then s, law.stays_confirmed s);
        never_changes = λ s n x y l l'. law.lists_agree s s n x y (omega (arith, now s, l.0)) (omega (arith, now s, law.stays_confirmed s, l.0)) (lists_plain r match_number p s (seat m s) (h s) n x l.1) (lists_plain r match_number q s (seat m' s) (h' s) n y l');
        all_agree = λ s t n x y l l'. law.lists_agree s t n x y (omega (arith, now s, l.0)) (omega (arith, then t, l'.0)) (lists_plain r match_number p s (seat m s) (h s) n x l.1) (lists_plain r match_number q t (seat m' t) (h' t) n y l'.1);
      }

  pub lists_the_truth : (more : List Turn) (m m' : Memory I) → Stands a match_number ts m → Stands a match_number (ts ++ more) m' → (s t : Bool) (n : ℕ) (y : State) → n ≤ confirmed (seat m s) → ListsConfirmed (seat m' t) n y → y ≡ truth r (run r ts) n
  lists_the_truth more m m' h h' s t n y low l =
      let p = run r ts in
      let q = run r (ts ++ more) in
      let law = confirmed_hold r ts more in
      let now = same_confirmed r match_number p s (seat m s) (h.seats s) in
      let then = same_confirmed r match_number q t (seat m' t) (h'.seats t) in
      let low' = l.0 in
      listed_is r q t n y (lists_plain r match_number q t (seat m' t) (h'.seats t) n y l.1)
      ∙ sym (law.all_agree s t n (omega arith) (omega arith))
      ∙ law.is_the_truth s n (omega arith)

  pub lists_last : (m : Memory I) → Stands a match_number ts m → (s : Bool) (n : ℕ) → n ≤ confirmed (seat m s) → (seat m s).played < n + most_listed → ListsConfirmed (seat m s) n (truth r (run r ts) n)
  lists_last m h s n low near =
      let p = run r ts in
      let e = same_confirmed r match_number p s (seat m s) (h.seats s) in
      let e' = (h.seats s).its_played in
      (low, plain_lists r match_number p s (seat m s) (h.seats s) n _ (subst (λ x. laws.Lists r p s n x) (confirmed_is_true r p s n (omega arith)) (lists r p s n (omega arith) (omega arith))))

  pub press_never_refused : Lawful a → (end : ℕ) → end ≤ match_length → (m b : Memory I) (s : Bool) (code : ℕ) (x : I) → Stands a match_number ts m → Brings m b (seat_number s) → well_brought b (seat_number s) ≡ true → CaughtUp r ts s → (seat m s).played ≤ (seat m (other s)).played → (seat m s).played < end → a.reads code ≡ Some x → (result a b (seat_number s) (Pressing code)).code ≡ accepted
  press_never_refused lawful end within m b s code x h brings well caught level room reads =
      let e = (h.seats s).its_played in
      let e' = (h.seats (other s)).its_played in
      let whole = (and_parts (not (ltb 1 (seat_number s))) (rightly_lent (seat b (numbered (seat_number s)))) well).1 in
      (goes_on a lawful match_number ts m b (seat_number s) h brings (Pressing code) tt).answers
      ∙ press_goes_on r end within ts s (lent (seat b (numbered (seat_number s)))) code x caught (omega arith) (omega arith) whole reads

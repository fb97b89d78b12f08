-- What a list of turns made again gives, from the promise of a played match.
use Rattle.std.proofs.Common.{◌≡◌, ℕ, zero, suc, min, Bool, true, false, List, [], ◌∷◌, map, length, take, set, refl, ap, ◌∙◌, length-set}
use Rattle.std.proofs.lemmas.List.{length-take, length-map}
use Rattle.std.proofs.lemmas.Bool.{and_parts, eqb-true}
use Rattle.interface.specs.Digest.{digest_of}
use Rattle.interface.specs.Games.{State}
use Rattle.interface.specs.Keepers.{Kept, newest}
use Rattle.plain.specs.Rules.{Rules}
use Rattle.plain.specs.Match.{Plain, Send, Take, turn, played, fresh, run}
use Rattle.plain.specs.States.{plain_state, down_from, listed}
use Rattle.seat.specs.declared.state.Seat.{Seat}
use Rattle.seat.specs.Meaning.{view}
use Rattle.seat.specs.Views.{View}
use Rattle.refine.specs.Setup.{Setup, rules}
use Rattle.refine.specs.Memory.{Entry, SlotLists, Memory, seat, put_seat, with_log, cut, own_part}
use Rattle.refine.specs.Outcomes.{numbered, lent, move}
use Rattle.refine.specs.Standing.{SeatStands}
use Rattle.refine.specs.Laws.{opened}
use Rattle.refine.specs.Matches.{brought, turn_of, through, turns, plain_tale, GoesAsPlain}
use Rattle.match_engine.specs.declared.log.Record.{Record}
use Rattle.match_engine.specs.Log.{entry_of, entries}
use Rattle.match_engine.specs.Meaning.{whole_slots}
use Rattle.play.specs.declared.turns.Call.{Call}
use Rattle.play.specs.declared.turns.Call.TheVariants as calls
use Rattle.play.specs.declared.turns.Turn.{Turn}
use Rattle.play.specs.declared.turns.Told.{Told}
use Rattle.play.specs.Turns.{call_of, step_of, steps_of, told_of}
use Rattle.play.specs.Promise.{Played}
use Rattle.report.specs.declared.ends.SeatEnd.{SeatEnd}
use Rattle.report.specs.Ends.{view_end, plain_end}
use Rattle.report.specs.Reruns.{move_in, turn_in, Reran}

-- the newest of the states listed
pub newest_listed : {I : Type 0} (r : Rules State I) (p : Plain I) (s : Bool) → newest (listed r p s) ≡ plain_state r p s (played p s)
newest_listed r p s = at (plain_state r p s) (played p s)
  where
    at : (f : ℕ → State) (n : ℕ) → newest (take 9 (down_from f n)) ≡ f n
    at f zero = refl
    at f (suc n) = refl

module _ {I : Type 0} (a : Setup I) (match_number : ℕ) where
  -- how a seat that stands ends
  pub seat_ends : (p : Plain I) (s : Bool) (v : View I) → SeatStands (rules a) match_number p s v → view_end v ≡ plain_end (rules a) p s
  seat_ends p s v h =
      let P = h.its_played in
      let R = h.its_known in
      let A = h.its_acknowledged in
      let D = ap (λ ss. digest_of (newest ss)) h.its_states ∙ ap digest_of (newest_listed (rules a) p s) in
      λ i. record { played = P i; known = R i; acknowledged = A i; confirmed = min (P i) (R i); digest = D i }

-- the turn that a step is, where 32 slots of each kind are brought
module _ {I : Type 0} (opening : State) (match_number : ℕ) (x y : SlotLists I) (log : List Entry) (hx : whole_slots x ≡ true) (hy : whole_slots y ≡ true) where
  abbrev m : Memory I
  m = opened opening match_number x y log

  front : {T : Type 0} (c : ℕ) (xs : List T) → length xs ≡ 32 → length (take c xs) ≡ min c 32
  front c xs e = length-take c xs ∙ ap (min c) e

  slots_lent : (s : Bool) (t : Turn) → (length (take t.own (seat m s).own) ≡ min t.own 32) × (length (take t.other (seat m s).others) ≡ min t.other 32) × (length (take t.digests (seat m s).digests) ≡ min t.digests 32)
  slots_lent true t =
      let p = and_parts _ _ hy in
      let q = and_parts _ _ p.0 in
      (front t.own y.own (eqb-true _ _ q.0), front t.other y.others (eqb-true _ _ q.1), front t.digests (set y.digests 0 _) (length-set y.digests 0 _ ∙ eqb-true _ _ p.1))
  slots_lent false t =
      let p = and_parts _ _ hx in
      let q = and_parts _ _ p.0 in
      (front t.own x.own (eqb-true _ _ q.0), front t.other x.others (eqb-true _ _ q.1), front t.digests (set x.digests 0 _) (length-set x.digests 0 _ ∙ eqb-true _ _ p.1))

  lent_is : (u : Bool) (t : Turn) → lent (seat (with_log (put_seat (own_part m) u (cut (step_of t).slots (seat m u))) (take t.records log)) u) ≡ record { own_slots = min t.own 32; other_slots = min t.other 32; digest_slots = min t.digests 32 }
  lent_is u t =
      let h = slots_lent u t in
      cut_is u ∙ (λ i. record { own_slots = h.0 i; other_slots = h.1 i; digest_slots = h.2 i })
    where
      cut_is : (u : Bool) → lent (seat (with_log (put_seat (own_part m) u (cut (step_of t).slots (seat m u))) (take t.records log)) u) ≡ lent (cut (step_of t).slots (seat m u))
      cut_is true = refl
      cut_is false = refl

  move_is : (b : Memory I) (records : ℕ) (c : Call) → b.log ≡ take records log → move b (call_of c) ≡ move_in (min records (length log)) c
  move_is b records (calls.Press code) e = refl
  move_is b records calls.Send e = ap (λ l. Send (length l)) e ∙ ap Send (length-take records log)
  move_is b records (calls.Take k) e = ap (λ l. Take k (length l)) e ∙ ap (Take k) (length-take records log)

  turn_is : (t : Turn) → turn_of m (step_of t) ≡ turn_in (length log) t
  turn_is t =
      let slots = lent_is (numbered t.seat) t in
      let mv = move_is (brought m (step_of t)) t.records t.call refl in
      λ i. turn t.seat (slots i) (mv i)

  pub turns_are : (ts : List Turn) → map (turn_of m) (steps_of ts) ≡ map (turn_in (length log)) ts
  turns_are [] = refl
  turns_are (t ∷ ts) =
      ap (λ u. u ∷ map (turn_of m) (steps_of ts)) (turn_is t) ∙ ap (λ us. turn_in (length log) t ∷ us) (turns_are ts)

-- all together
module _ {I : Type 0} (a : Setup I) (match_number : ℕ) (x y : SlotLists I) (log : List Record) (hx : whole_slots x ≡ true) (hy : whole_slots y ≡ true) (ts : List Turn) (before after : List Told) (left : Memory I) (was : Played a (opened a.opening match_number x y (entries log)) left ts before after) (promise : GoesAsPlain a match_number (opened a.opening match_number x y (entries log))) where
  abbrev o : Memory I
  o = opened a.opening match_number x y (entries log)

  plain_turns : map (turn_of o) (steps_of ts) ≡ map (turn_in (length log)) ts
  plain_turns = turns_are a.opening match_number x y (entries log) hx hy ts ∙ ap (λ n. map (turn_in n) ts) (length-map log entry_of)

  ends_as : (s : Bool) → view_end (seat left s) ≡ plain_end (rules a) (run (rules a) (map (turn_in (length log)) ts)) s
  ends_as s =
      let m = through a o (steps_of ts) in
      ap (λ k. view_end (seat k s)) was.leaves
      ∙ cut_end m s
      ∙ seat_ends a match_number (run (rules a) (turns a o (steps_of ts))) s (seat (own_part m) s) ((promise.stands (steps_of ts)).seats s)
      ∙ ap (λ us. plain_end (rules a) (run (rules a) us) s) (promise.turns_alone (steps_of ts) ∙ plain_turns)
    where
      cut_end : (m : Memory I) (s : Bool) → view_end (seat m s) ≡ view_end (seat (own_part m) s)
      cut_end m true = refl
      cut_end m false = refl

  pub reran : (ends : SeatEnd × SeatEnd) → ends.0 ≡ view_end (seat left false) → ends.1 ≡ view_end (seat left true) → Reran (rules a) (map (turn_in (length log)) ts) (map told_of (take (length ts) after)) ends
  reran ends e e' =
      record {
        tells = was.tells ∙ promise.tells_plain (steps_of ts) ∙ ap (plain_tale (rules a) fresh) plain_turns;
        first = e ∙ ends_as false;
        second = e' ∙ ends_as true;
      }

-- as a seat that is lent to be read has it
pub end_as : {G K H I : Type 0} (kept : K → Kept) (s s' : Seat G K H) (own others : List I) (digests : List ℕ) (r : SeatEnd) → s ≡ s' → r ≡ view_end (view kept s own others digests) → r ≡ view_end (view kept s' own others digests)
end_as kept s s' own others digests r e h = h ∙ ap (λ k. view_end (view kept k own others digests)) e

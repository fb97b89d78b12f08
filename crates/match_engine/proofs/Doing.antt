-- What a call does, from what its code left.
use Rattle.std.proofs.Common.{◌≡◌, ℕ, ◌<◌, ◌≤◌, Bool, true, false, cond, ◌&&◌, ltb, List, Some, None, sym, refl, ap, ◌∙◌, subst}
use Rattle.std.proofs.lemmas.Bool.{lt-ltb, le-ltb}
use Rattle.interface.specs.Keepers.{Kept}
use Rattle.interface.specs.Answers.{number_of}
use Rattle.interface.specs.declared.answers.Refusal.{Refusal}
use Rattle.interface.specs.declared.answers.Refusal.TheVariants.{BadFrame, NoSuchSeat}
use Rattle.frames.specs.Queue.{whole}
use Rattle.plain.specs.Match.{other}
use Rattle.seat.specs.Views.{View, rightly_lent}
use Rattle.seat.specs.Calls as calls
use Rattle.refine.specs.Setup.{Setup, setting_of, Lawful}
use Rattle.refine.specs.Memory.{Entry, SlotLists, Memory, seat, entry, datagram}
use Rattle.refine.specs.Outcomes.{Call, Pressing, Taking, Outcome, outcome, numbered, log_check, result}
use Rattle.refine.specs.Standing.{HasRoom}
use Rattle.refine.proofs.Calling.{keeps_standing}
use Rattle.refine.proofs.Results.{no_such_seat, bad_slots, check_log, result_refused, press_result, take_result}
use Rattle.match_engine.specs.declared.state.Match.{Match}
use Rattle.match_engine.specs.Calls.{Does}
use Rattle.match_engine.specs.Meaning.{seat_view, whole_memory, memory, KeepsRest}

pub does : {I : Type 0} (a : Setup I) → Lawful a → (b : Memory I) (n : ℕ) (c : Call) (o : Outcome I) → HasRoom b c → o ≡ result a b n c → Does a b n c o
does a lawful b n c o room e = record { leaves = e; standing = keeps_standing a lawful b n c o e room }

pub not_above : (n : ℕ) → n ≤ 1 → ltb 1 n ≡ false
not_above n low = le-ltb 1 n low

-- a check that failed
module _ {I : Type 0} (a : Setup I) (lawful : Lawful a) (b : Memory I) (n : ℕ) (c : Call) (room : HasRoom b c) (r : ℕ) where
  pub no_seat : 1 < n → r ≡ number_of NoSuchSeat → Does a b n c (outcome b r 0)
  no_seat high e = does a lawful b n c _ room (ap (λ k. outcome b k 0) e ∙ sym (no_such_seat a b n c (lt-ltb 1 n high)))

  pub wrong_slots : n ≤ 1 → rightly_lent (seat b (numbered n)) ≡ false → r ≡ number_of BadFrame → Does a b n c (outcome b r 0)
  wrong_slots low wrong e = does a lawful b n c _ room (ap (λ k. outcome b k 0) e ∙ sym (bad_slots a b n (not_above n low) c wrong))

  pub wrong_log : (why : Refusal) → n ≤ 1 → rightly_lent (seat b (numbered n)) ≡ true → log_check b (numbered n) c ≡ Some why → r ≡ number_of why → Does a b n c (outcome b r 0)
  wrong_log why low right wrong e = does a lawful b n c _ room (ap (λ k. outcome b k 0) e ∙ sym (result_refused a b n c why (check_log a b n (not_above n low) c right ∙ wrong)))

module _ {G K0 K1 H0 H1 I : Type 0} (kept_0 : K0 → Kept) (kept_1 : K1 → Kept) where
  -- what one seat was left as, once it is known which
  pub at_seat : (m m' : Match G K0 K1 H0 H1) (s : Bool) (lent lent' : SlotLists I) (f : Bool → View I → View I) (t : Bool) → s ≡ t → seat_view kept_0 kept_1 m' t lent' ≡ f t (seat_view kept_0 kept_1 m t lent) → seat_view kept_0 kept_1 m' s lent' ≡ f s (seat_view kept_0 kept_1 m s lent)
  at_seat m m' s lent lent' f t e left = subst (λ u. seat_view kept_0 kept_1 m' u lent' ≡ f u (seat_view kept_0 kept_1 m u lent)) (sym e) left

  pub acting : (m : Match G K0 K1 H0 H1) (n : ℕ) (lent rest : SlotLists I) (log : List Entry) → seat (memory kept_0 kept_1 m n lent rest log) (numbered n) ≡ seat_view kept_0 kept_1 m (numbered n) lent
  acting m n lent rest log = at (numbered n)
    where
      at : (s : Bool) → seat (whole_memory kept_0 kept_1 m (cond s rest lent) (cond s lent rest) log) s ≡ seat_view kept_0 kept_1 m s lent
      at true = refl
      at false = refl

  pub waiting : (m : Match G K0 K1 H0 H1) (n : ℕ) (lent rest : SlotLists I) (log : List Entry) → seat (memory kept_0 kept_1 m n lent rest log) (other (numbered n)) ≡ seat_view kept_0 kept_1 m (other (numbered n)) rest
  waiting m n lent rest log = at (numbered n)
    where
      at : (s : Bool) → seat (whole_memory kept_0 kept_1 m (cond s rest lent) (cond s lent rest) log) (other s) ≡ seat_view kept_0 kept_1 m (other s) rest
      at true = refl
      at false = refl

  pub lent_whole : (m : Match G K0 K1 H0 H1) (n : ℕ) (lent rest : SlotLists I) (log : List Entry) (r : Bool) → (whole lent.own && whole lent.others && whole lent.digests) ≡ r → rightly_lent (seat (memory kept_0 kept_1 m n lent rest log) (numbered n)) ≡ r
  lent_whole m n lent rest log r e = ap rightly_lent (acting m n lent rest log) ∙ at (numbered n) ∙ e
    where
      at : (s : Bool) → rightly_lent (seat_view kept_0 kept_1 m s lent) ≡ (whole lent.own && whole lent.others && whole lent.digests)
      at true = refl
      at false = refl

  module _ (a : Setup I) (lawful : Lawful a) (m m' : Match G K0 K1 H0 H1) (n : ℕ) (low : n ≤ 1) (lent lent' rest : SlotLists I) (log : List Entry) (keeps : KeepsRest I kept_0 kept_1 m m' (numbered n)) where
    abbrev b : Memory I
    b = memory kept_0 kept_1 m n lent rest log

    abbrev b' : Memory I
    b' = memory kept_0 kept_1 m' n lent' rest log

    abbrev s : Bool
    s = numbered n

    same_other : seat b' (other s) ≡ seat b (other s)
    same_other = waiting m' n lent' rest log ∙ keeps.0 rest ∙ sym (waiting m n lent rest log)

    pub press_does : (code r : ℕ) → r ≡ calls.press_answer (setting_of a s) (seat_view kept_0 kept_1 m s lent) code → seat_view kept_0 kept_1 m' s lent' ≡ calls.press_leaves (setting_of a s) (seat_view kept_0 kept_1 m s lent) code → Does a b n (Pressing code) (outcome b' r 0)
    press_does code r told left =
        does a lawful b n (Pressing code) (outcome b' r 0) tt
        (press_result a b n (not_above n low) b' same_other code r
        (acting m' n lent' rest log ∙ left ∙ ap (λ v. calls.press_leaves (setting_of a s) v code) (sym (acting m n lent rest log)))
        refl keeps.1
        (told ∙ ap (λ v. calls.press_answer (setting_of a s) v code) (sym (acting m n lent rest log))))

    pub take_does : (k : ℕ) (bytes : List ℕ) (r : ℕ × ℕ) → (whole lent.own && whole lent.others && whole lent.digests) ≡ true → log_check b s (Taking k) ≡ None → bytes ≡ datagram (entry b k) → r ≡ calls.take_answer (setting_of a s) (seat_view kept_0 kept_1 m s lent) bytes → seat_view kept_0 kept_1 m' s lent' ≡ calls.take_leaves (setting_of a s) (seat_view kept_0 kept_1 m s lent) bytes → Does a b n (Taking k) (outcome b' r.0 r.1)
    take_does k bytes r right passed is told left =
        let g = setting_of a s in
        let told' : r ≡ calls.take_answer g (seat b s) (datagram (entry b k)) =
        told ∙ ap (λ v. calls.take_answer g v bytes) (sym (acting m n lent rest log)) ∙ ap (calls.take_answer g (seat b s)) is in
        does a lawful b n (Taking k) (outcome b' r.0 r.1) tt
        (take_result a b n (not_above n low) b' same_other (lent_whole m n lent rest log true right) k r.0 r.1 passed
        (acting m' n lent' rest log ∙ left ∙ ap (λ v. calls.take_leaves g v bytes) (sym (acting m n lent rest log)) ∙ ap (calls.take_leaves g (seat b s)) is)
        refl keeps.1
        (ap (λ (z : ℕ × ℕ). z.0) told')
        (ap (λ (z : ℕ × ℕ). z.1) told'))

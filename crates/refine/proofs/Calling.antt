-- Each call of a match that stands, by what it asks for.
use Rattle.std.proofs.Common.{◌≡◌, ℕ, ◌+◌, ◌-◌, ◌<◌, ◌≤◌, max, Bool, true, false, cond, ltb, leb, List, [], ◌∷◌, ◌++◌, length, get_or, take, drop, set, Some, None, Option, sym, refl, ap, ◌∙◌, subst, ⊎_elim, arith, length-set}
use Rattle.std.proofs.lemmas.List.{get_or-set_same}
use Rattle.std.proofs.lemmas.Bool.{cases_Bool, cond-true, cond-false, leb-false}
use Rattle.std.proofs.lemmas.Bool.Decides.{nat_tests}
use Rattle.interface.specs.declared.answers.Refusal.{Refusal}
use Rattle.interface.specs.declared.answers.Refusal.TheVariants.{LogFull, BadFrame, NoSuchSeat}
use Rattle.interface.specs.Answers.{accepted}
use Rattle.interface.specs.Games.{State}
use Rattle.plain.specs.Rules.{Rules}
use Rattle.plain.specs.Match.{Plain, Turn, other, side, played, known, acknowledged, note, answered, unless_refused, send_refusal, take_refusal, press_refusal, refusal, move_refusal, moved, pressed, noted, taken, after, run, input_of}
use Rattle.plain.specs.States.{lowest_change}
use Rattle.plain.specs.Laws.{Counts}
use Rattle.plain.proofs.Steps.{step, take_passes}
use Rattle.plain.proofs.Growth.{Grown, step_grows, put_notes}
use Rattle.plain.proofs.Counting.{Noted, sound, welcome}
use Rattle.plain.proofs.Changes.{send_keeps_moved}
use Rattle.plain.proofs.Replaying.{replays}
use Rattle.datagram.specs.Layout.{bytes_of}
use Rattle.seat.specs.Views.{View, rightly_lent}
use Rattle.seat.specs.Calls as calls
use Rattle.refine.specs.Setup.{Setup, rules, setting_of, Lawful}
use Rattle.refine.specs.Memory.{Memory, seat, put_seat, no_entry, entry, datagram}
use Rattle.refine.specs.Outcomes.{Call, Pressing, Sending, Taking, Outcome, outcome, numbered, log_check, check, made, written, appended, result, lent, as_turn, move}
use Rattle.refine.specs.Standing.{SeatStands, Sent, Stands, fields_of, well_brought, Brings, HasRoom, GoesOn, KeepsStanding}
use Rattle.refine.proofs.Seats.{stood, is_stood, SlotsHold, slots_hold, still_stands}
use Rattle.refine.proofs.Pressing.{press_stands}
use Rattle.refine.proofs.Datagrams.{fields_fit}
use Rattle.refine.proofs.Sending.{new_note, stood_whole, send_passes, send_answers, written_sent}
use Rattle.refine.proofs.Taking as takes
use Rattle.refine.proofs.Logging.{seat_kept, own_seat, other_seat, put_sent, put_same, joined_none, joined_one, Logged, logged, logged_same, logged_more}
use Rattle.refine.proofs.Results.{result_refused}
use Rattle.refine.proofs.Results as results
use Rattle.refine.proofs.Turning.{refused_goes_on, accepted_goes_on}

module _ {I : Type 0} (a : Setup I) (lawful : Lawful a) (match_number : ℕ) (ts : List Turn) (m b : Memory I) (n : ℕ) (stands : Stands a match_number ts m) (brings : Brings m b n) where
  abbrev r : Rules State I
  r = rules a

  abbrev p : Plain I
  p = run r ts

  abbrev s : Bool
  s = numbered n

  -- the call is refused before any seat is asked
  barred : (c : Call) (why : Refusal) → check b n c ≡ Some why → refusal r p (as_turn b n c) ≡ Some why → GoesOn a match_number ts m b n c (result a b n c)
  barred c why e refused = refused_goes_on a match_number ts m b n c stands brings lawful why refused (result_refused a b n c why e)

  module _ (is_seat : ltb 1 n ≡ false) (whole : rightly_lent (seat b s) ≡ true) where
    well : well_brought b n ≡ true
    well = grind arith

    -- the seat and its slots are let through
    check_log : (c : Call) → check b n c ≡ log_check b s c
    check_log c = results.check_log a b n is_seat c whole

    refusal_move : (c : Call) → refusal r p (as_turn b n c) ≡ move_refusal r p s (move b c)
    refusal_move c = grind arith

    result_made : (c : Call) → log_check b s c ≡ None → result a b n c ≡ made a b s c
    result_made c e = results.result_made a b n c (check_log c ∙ e)

    abbrev v : View I
    v = seat m s

    abbrev v' : View I
    v' = stood r match_number p s v.own v.others v.digests

    holds : SlotsHold r match_number p s v.own v.others v.digests
    holds = slots_hold r match_number p s v (stands.seats s)

    is : seat b s ≡ v'
    is = brings.own_slots well ∙ is_stood r match_number p s v (stands.seats s)

    counts : (u : Bool) → Counts p u
    counts = (sound r ts).counts

    -- nothing is sent
    unsent : (x : Memory I) (q : Plain I) → Grown p q → length q.notes ≡ length p.notes → x.sent ≡ m.sent → Logged r match_number q (m.log ++ drop m.sent (take x.sent x.log)) x.sent
    unsent x q grown same e =
        subst (λ l. Logged r match_number q l x.sent) (sym (joined_none m.log x.log m.sent x.sent e))
        (subst (λ k. Logged r match_number q m.log k) (sym e) (logged_same r match_number p q m.log m.sent (sound r ts) grown same (logged r match_number p m stands)))

    -- the plain match grows by the move
    grows : (c : Call) → move_refusal r p s (move b c) ≡ None → Grown p (moved r p s (move b c))
    grows c e = subst (λ z. Grown p z) (ap (λ o. unless_refused o p (moved r p s (move b c))) (refusal_move c ∙ e)) (step_grows r (step r p (as_turn b n c)))

    -- Press.
    press_same : (code : ℕ) → calls.press_refusal (setting_of a s) (seat b s) code ≡ press_refusal r (side p s) code
    press_same code = ap (λ w. calls.press_refusal (setting_of a s) w code) is ∙ cond-true _ _ _ (stood_whole a p s match_number v.own v.others v.digests counts holds)

    press_goes : (code : ℕ) → GoesOn a match_number ts m b n (Pressing code) (result a b n (Pressing code))
    press_goes code = at (press_refusal r (side p s) code) refl
      where
        at : (o : Option Refusal) → press_refusal r (side p s) code ≡ o → GoesOn a match_number ts m b n (Pressing code) (result a b n (Pressing code))
        at (Some why) e =
            let refuses = press_same code ∙ e in
            let leaves : calls.press_leaves (setting_of a s) (seat b s) code ≡ seat b s = ap (λ o. unless_refused o (seat b s) (calls.pressed (setting_of a s) (seat b s) (input_of r code))) refuses in
            refused_goes_on a match_number ts m b n (Pressing code) stands brings lawful why (refusal_move (Pressing code) ∙ e)
            (result_made (Pressing code) refl
            ∙ ap (λ w. outcome (put_seat b s w) (calls.press_answer (setting_of a s) (seat b s) code) 0) leaves
            ∙ ap (λ x. outcome x (calls.press_answer (setting_of a s) (seat b s) code) 0) (put_same b s)
            ∙ ap (λ x. outcome b (answered x) 0) refuses)
        at None e =
            let accepts = press_same code ∙ e in
            let x = input_of r code in
            let leaves : calls.press_leaves (setting_of a s) (seat b s) code ≡ calls.pressed (setting_of a s) v' x =
            ap (λ o. unless_refused o (seat b s) (calls.pressed (setting_of a s) (seat b s) x)) accepts
            ∙ ap (λ w. calls.pressed (setting_of a s) w x) is in
            let q = pressed p s x in
            let grown : Grown p q = grows (Pressing code) e in
            let w = calls.press_leaves (setting_of a s) (seat b s) code in
            accepted_goes_on a match_number ts m b n (Pressing code) stands brings lawful (made a b s (Pressing code)) (result_made (Pressing code) refl) (refusal_move (Pressing code) ∙ e) well
            (subst (λ y. SeatStands r match_number q s y) (sym (own_seat b s w ∙ leaves)) (press_stands a p s x match_number v.own v.others v.digests counts holds))
            (other_seat b s w)
            (unsent (put_seat b s w) q grown (ap length (put_notes p s (record { inputs = (side p s).inputs ++ x ∷ []; known_frames = known p s; acknowledged_frames = acknowledged p s }))) (put_sent b s w ∙ brings.same_sent))
            (ap answered accepts)
            (sym ((replays r 8 (omega arith) ts).press_replays_nothing n (lent (seat b s)) code))

    -- Send.
    noted_all : b.sent ≡ length p.notes
    noted_all = brings.same_sent ∙ stands.all_sent

    send_goes : HasRoom b Sending → GoesOn a match_number ts m b n Sending (result a b n Sending)
    send_goes roomy =
        ⊎_elim
        (λ full.
        let e : log_check b s Sending ≡ Some LogFull = cond-true _ _ _ full in
        barred Sending LogFull (check_log Sending ∙ e) (refusal_move Sending ∙ ap (λ k. cond (leb (length b.log) k) (Some LogFull) None) (sym noted_all) ∙ e))
        (λ free.
        let e : log_check b s Sending ≡ None = cond-false _ _ _ free in
        let e' : send_refusal p (length b.log) ≡ None = ap (λ k. cond (leb (length b.log) k) (Some LogFull) None) (sym noted_all) ∙ e in
        let inside = leb-false (length b.log) b.sent free in
        let x = entry b b.sent in
        let room = roomy inside in
        let room' : 53 ≤ length x.bytes = omega arith in
        let passes = ap (λ w. calls.send_refusal (setting_of a s) w x.bytes) is ∙ send_passes a p s match_number v.own v.others v.digests counts holds x.bytes room' in
        let y = written a (seat b s) s x in
        let b' : Memory I = record { seat_0 = b.seat_0; seat_1 = b.seat_1; log = set b.log b.sent y; sent = b.sent + 1 } in
        let added : appended a b s ≡ b' = ap (λ o. unless_refused o b b') passes in
        let q = noted p s in
        let grown : Grown p q = grows Sending e' in
        let told : (calls.send_answer (setting_of a s) (seat b s) x.bytes).0 ≡ accepted = ap (λ w. (calls.send_answer (setting_of a s) w x.bytes).0) is ∙ ap (λ (z : ℕ × ℕ). z.0) (send_answers a p s match_number v.own v.others v.digests counts holds x.bytes room') in
        let wrote : Sent r match_number q (new_note p s) y = subst (λ w. Sent r match_number q (new_note p s) (written a w s x)) (sym is) (written_sent a p s match_number v.own v.others v.digests counts holds x room') in
        let none = no_entry in
        let same = brings.same_sent in
        let long = length-set b.log b.sent y in
        let more : m.log ++ drop m.sent (take (b.sent + 1) (set b.log b.sent y)) ≡ m.log ++ y ∷ [] =
        joined_one m.log (set b.log b.sent y) m.sent (b.sent + 1) none (omega arith) (omega arith)
        ∙ ap (λ k. m.log ++ get_or (set b.log b.sent y) k none ∷ []) (sym same)
        ∙ ap (λ z. m.log ++ z ∷ []) (get_or-set_same b.log b.sent y none inside) in
        accepted_goes_on a match_number ts m b n Sending stands brings lawful (outcome b' (calls.send_answer (setting_of a s) (seat b s) x.bytes).0 0)
        (result_made Sending e ∙ ap (λ z. outcome z (calls.send_answer (setting_of a s) (seat b s) x.bytes).0 0) added)
        (refusal_move Sending ∙ e') well
        (subst (λ w. SeatStands r match_number q s w) (sym (seat_kept b (set b.log b.sent y) (b.sent + 1) s ∙ brings.own_slots well))
        (still_stands r match_number p q s v (grind arith) grown (counts s) (λ k. send_keeps_moved r p s s k) (stands.seats s)))
        (seat_kept b (set b.log b.sent y) (b.sent + 1) (other s))
        (subst (λ l. Logged r match_number q l (b.sent + 1)) (sym more)
        (subst (λ k. Logged r match_number q (m.log ++ y ∷ []) (k + 1)) (sym same) (logged_more r match_number p s m.log m.sent y (sound r ts) grown wrote (logged r match_number p m stands))))
        told
        (sym ((replays r 8 (omega arith) ts).send_replays_nothing n (lent (seat b s)) (length b.log))))
        (cases_Bool (leb (length b.log) b.sent))

    -- Take.
    log_same : (k : ℕ) → log_check b s (Taking k) ≡ take_refusal p s k (length b.log)
    log_same k =
        let same = brings.same_log k in
        let logged = stands.log_stands k in
        grind (arith, nat_tests, noted_all, stands.all_sent)

    take_goes : (k : ℕ) → GoesOn a match_number ts m b n (Taking k) (result a b n (Taking k))
    take_goes k = at (take_refusal p s k (length b.log)) refl
      where
        at : (o : Option Refusal) → take_refusal p s k (length b.log) ≡ o → GoesOn a match_number ts m b n (Taking k) (result a b n (Taking k))
        at (Some why) e = barred (Taking k) why (check_log (Taking k) ∙ log_same k ∙ e) (refusal_move (Taking k) ∙ e)
        at None e =
            let passed = take_passes p s k (length b.log) e in
            let inside = passed.1 in
            let from = passed.2 in
            let x = note p k in
            let all = stands.all_sent in
            let low : k < m.sent = omega arith in
            let known_note : x ≡ takes.by_other s x = λ i. record { sender = from i; start = x.start; end = x.end; acknowledgement = x.acknowledgement } in
            let good : Noted p (other s) (takes.by_other s x) = subst (λ z. Noted p z.sender z) known_note ((sound r ts).notes k inside) in
            let bytes = datagram (entry b k) in
            let is_datagram : bytes ≡ bytes_of (fields_of r match_number p (takes.by_other s x)) =
            ap datagram (brings.same_log k low passed.0) ∙ (stands.log_stands k low).its_bytes ∙ ap (λ z. bytes_of (fields_of r match_number p z)) known_note in
            let fits = fields_fit a lawful match_number p (takes.by_other s x) stands.number_fits counts good in
            let q = taken p s x in
            let grown : Grown p q = grows (Taking k) e in
            let fine = welcome r 8 (omega arith) ts s k inside from in
            let lent_whole = stood_whole a p s match_number v.own v.others v.digests counts holds in
            let g = setting_of a s in
            let leaves : calls.take_leaves g (seat b s) bytes ≡ calls.taken g v' (fields_of r match_number p (takes.by_other s x)) =
            ap (λ w. calls.take_leaves g w bytes) is ∙ takes.take_leaves_is a lawful p s match_number v.own v.others v.digests counts holds x fine good.ended grown lent_whole fits bytes is_datagram in
            let tells : calls.take_answer g (seat b s) bytes ≡ (accepted, played p s - lowest_change r p q s) =
            ap (λ w. calls.take_answer g w bytes) is ∙ takes.take_answers a lawful p s match_number v.own v.others v.digests counts holds x fine good.ended grown lent_whole fits bytes is_datagram in
            let w = calls.take_leaves g (seat b s) bytes in
            let left : after r p (as_turn b n (Taking k)) ≡ q = ap (λ o. unless_refused o p q) (refusal_move (Taking k) ∙ e) in
            accepted_goes_on a match_number ts m b n (Taking k) stands brings lawful (made a b s (Taking k)) (result_made (Taking k) (log_same k ∙ e)) (refusal_move (Taking k) ∙ e) well
            (subst (λ y. SeatStands r match_number q s y) (sym (own_seat b s w ∙ leaves)) (takes.take_stands a lawful p s match_number v.own v.others v.digests counts holds x fine good.ended grown))
            (other_seat b s w)
            (unsent (put_seat b s w) q grown (ap length (put_notes p s (record { inputs = (side p s).inputs; known_frames = max (known p s) x.end; acknowledged_frames = max (acknowledged p s) x.acknowledgement }))) (put_sent b s w ∙ brings.same_sent))
            (ap (λ (z : ℕ × ℕ). z.0) tells)
            (ap (λ (z : ℕ × ℕ). z.1) tells ∙ ap (λ z. played p s - lowest_change r p z s) (sym left))

    goes : (c : Call) → HasRoom b c → GoesOn a match_number ts m b n c (result a b n c)
    goes (Pressing code) room = press_goes code
    goes Sending room = send_goes room
    goes (Taking k) room = take_goes k

  -- every call
  pub goes_on : (c : Call) → HasRoom b c → GoesOn a match_number ts m b n c (result a b n c)
  goes_on c room =
      ⊎_elim
      (λ bad. barred c NoSuchSeat (grind arith) (grind arith))
      (λ fine.
      ⊎_elim
      (λ right. goes fine right c room)
      (λ wrong.
      barred c BadFrame (grind arith) (grind arith))
      (cases_Bool (rightly_lent (seat b s))))
      (cases_Bool (ltb 1 n))

-- as a clause of a call's contract has it
pub keeps_standing : {I : Type 0} (a : Setup I) → Lawful a → (b : Memory I) (n : ℕ) (c : Call) (o : Outcome I) → o ≡ result a b n c → HasRoom b c → KeepsStanding a b n c o
keeps_standing a lawful b n c o e room match_number ts m stands brings = subst (λ x. GoesOn a match_number ts m b n c x) (sym e) (goes_on a lawful match_number ts m b n stands brings c room)

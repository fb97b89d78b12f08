-- Every call keeps a match standing.
use Rattle.std.proofs.Common.{◌≡◌, ℕ, ◌<◌, Bool, true, cond, List, [], ◌∷◌, ◌++◌, length, get_or, take, drop, Some, None, sym, refl, ap, ◌∙◌, subst, arith}
use Rattle.std.proofs.lemmas.Bool.{cond-true}
use Rattle.interface.specs.declared.answers.Refusal.{Refusal}
use Rattle.interface.specs.Answers.{accepted, number_of}
use Rattle.interface.specs.Games.{State}
use Rattle.plain.specs.Rules.{Rules}
use Rattle.plain.specs.Match.{Plain, Turn, Move, other, side, note, acting, answered, unless_refused, refusal, moved, answer, after, run}
use Rattle.plain.specs.States.{replayed}
use Rattle.plain.proofs.Steps.{above_0, step, run_more}
use Rattle.plain.proofs.Growth.{step_grows}
use Rattle.plain.proofs.Counting.{sound}
use Rattle.plain.proofs.Changes.{either_way, others_keep}
use Rattle.plain.proofs.Replaying.{replays}
use Rattle.seat.specs.Views.{View}
use Rattle.refine.specs.Setup.{Setup, rules, Lawful}
use Rattle.refine.specs.Memory.{Entry, Memory, seat, with_log, no_entry}
use Rattle.refine.specs.Outcomes.{Call, Outcome, outcome, numbered, result, as_turn, move}
use Rattle.refine.specs.Standing.{SeatStands, Sent, StandsAs, Stands, well_brought, Brings, returned, ReplaysFrames, GoesOn}
use Rattle.refine.proofs.Seats.{still_stands}
use Rattle.refine.proofs.Logging.{both, own_seat, other_seat, put_log, put_sent, seat_relogged, same_memory, joined_none, Logged}

-- the side that a move does not concern
other_moved : {S I : Type 0} (r : Rules S I) (p : Plain I) (s : Bool) (m : Move) → side (moved r p s m) (other s) ≡ side p (other s)
other_moved r p s m = grind arith

module _ {I : Type 0} (a : Setup I) (match_number : ℕ) (ts : List Turn) where
  abbrev r : Rules State I
  r = rules a

  abbrev p : Plain I
  p = run r ts

  -- the seat that a turn is not of
  other_stands : (t : Turn) (v : View I) → SeatStands r match_number p (other (acting t)) v → SeatStands r match_number (after r p t) (other (acting t)) v
  other_stands t v h =
      still_stands r match_number p (after r p t) (other (acting t)) v
      (either_way r (λ q. side q (other (acting t)) ≡ side p (other (acting t))) p t refl (other_moved r p (acting t) t.move))
      (step_grows r (step r p t)) ((sound r ts).counts (other (acting t)))
      (λ n. others_keep r p t (sound r ts).counts n n (omega arith)) h

  -- the frames replayed, by what changes
  pub frames_of : Lawful a → (t : Turn) (n : ℕ) → n ≡ replayed r p t → ReplaysFrames r p t n
  frames_of lawful t n e =
      let laws = (replays r 8 (omega arith) ts).of_a_turn t in
      subst (λ k. ReplaysFrames r p t k) (sym e)
      (record {
        within = laws.within;
        few = laws.few;
        starts_at_a_change = laws.starts_at_a_change;
        no_change_below = laws.no_change_below lawful.reads_back;
      })

  module _ (m b : Memory I) (n : ℕ) (c : Call) (stands : Stands a match_number ts m) (brings : Brings m b n) (lawful : Lawful a) where
    abbrev s : Bool
    s = numbered n

    abbrev t : Turn
    t = as_turn b n c

    -- a refused call leaves all
    pub refused_goes_on : (why : Refusal) → refusal r p t ≡ Some why → result a b n c ≡ outcome b (number_of why) 0 → GoesOn a match_number ts m b n c (result a b n c)
    refused_goes_on why refused is =
        subst (λ o. GoesOn a match_number ts m b n c o) (sym is)
        (record {
          stands = subst (λ x. StandsAs r match_number (run r (ts ++ t ∷ [])) x) (sym whole) (subst (λ q. StandsAs r match_number q m) (sym stays) stands);
          answers = sym told;
          replays = nothing;
          replays_frames = frames_of lawful t 0 nothing;
        })
      where
        told : answer r p t ≡ number_of why
        told = ap answered refused

        nothing : 0 ≡ replayed r p t
        nothing = sym ((replays r 8 (omega arith) ts).refused_replays_nothing t (λ e. omega (arith, above_0 why, sym told ∙ e)))

        stays : run r (ts ++ t ∷ []) ≡ p
        stays = run_more r ts t ∙ ap (λ o. unless_refused o p (moved r p s (move b c))) refused

        same_acting : cond (well_brought b n) (seat b s) (seat m s) ≡ seat m s
        same_acting =
            let own = brings.own_slots in grind arith

        log' : List Entry
        log' = m.log ++ drop m.sent (take b.sent b.log)

        whole : returned m b n b ≡ m
        whole =
            same_memory (returned m b n b) m s
            (own_seat (with_log b log') s _ ∙ same_acting)
            (other_seat (with_log b log') s _ ∙ seat_relogged b log' (other s) ∙ brings.same_other)
            (put_log (with_log b log') s _ ∙ joined_none m.log b.log m.sent b.sent brings.same_sent)
            (put_sent (with_log b log') s _ ∙ brings.same_sent)

    -- an accepted one leaves the seat as its move does, the other seat, and the log
    pub accepted_goes_on : (o : Outcome I) → result a b n c ≡ o → refusal r p t ≡ None → well_brought b n ≡ true → SeatStands r match_number (moved r p s (move b c)) s (seat o.left s) → seat o.left (other s) ≡ seat b (other s) → Logged r match_number (moved r p s (move b c)) (m.log ++ drop m.sent (take o.left.sent o.left.log)) o.left.sent → o.code ≡ accepted → o.frames ≡ replayed r p t → GoesOn a match_number ts m b n c (result a b n c)
    accepted_goes_on o is passed well acting_stands same logs told frames =
        subst (λ o. GoesOn a match_number ts m b n c o) (sym is)
        (record {
          stands = subst (λ q. StandsAs r match_number q (returned m b n o.left)) (sym leaves)
              (record {
                seats = both (λ u. SeatStands r match_number (moved r p s (move b c)) u (seat (returned m b n o.left) u)) s
                    (subst (λ w. SeatStands r match_number (moved r p s (move b c)) s w) (sym (own_seat relogged s _ ∙ cond-true _ _ _ well)) acting_stands)
                    (subst (λ w. SeatStands r match_number (moved r p s (move b c)) (other s) w) (sym (other_seat relogged s _ ∙ seat_relogged o.left log' (other s) ∙ same ∙ brings.same_other))
                    (subst (λ q. SeatStands r match_number q (other s) (seat m (other s))) left (other_stands t _ (stands.seats (other s)))));
                all_sent = put_sent relogged s _ ∙ logs.all_sent;
                all_logged = ap length (put_log relogged s _) ∙ logs.all_logged ∙ sym (put_sent relogged s _);
                log_stands = λ k low. subst (λ l. Sent r match_number (moved r p s (move b c)) (note (moved r p s (move b c)) k) (get_or l k no_entry)) (sym (put_log relogged s _)) (logs.stands k (subst (λ x. k < x) (put_sent relogged s _) low));
                number_fits = stands.number_fits;
              });
          answers = told ∙ sym (ap answered passed);
          replays = frames;
          replays_frames = frames_of lawful t o.frames frames;
        })
      where
        left : after r p t ≡ moved r p s (move b c)
        left = ap (λ o. unless_refused o p (moved r p s (move b c))) passed

        leaves : run r (ts ++ t ∷ []) ≡ moved r p s (move b c)
        leaves = run_more r ts t ∙ left

        log' : List Entry
        log' = m.log ++ drop m.sent (take o.left.sent o.left.log)

        relogged : Memory I
        relogged = with_log o.left log'

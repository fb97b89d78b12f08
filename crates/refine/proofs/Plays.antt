-- Every list of steps on a fresh match with its own slots alone: it goes as on a match that may have more slots.
use Rattle.std.proofs.Common.{◌≡◌, ℕ, ◌^◌, ◌<◌, ◌≤◌, Bool, true, false, cond, List, [], ◌∷◌, ◌++◌, length, take, drop, Some, sym, refl, ap, ◌∙◌, subst, arith, length-set}
use Rattle.std.specs.List.{slice_get}
use Rattle.std.proofs.lemmas.List.{take_all}
use Rattle.interface.specs.Answers.{accepted}
use Rattle.interface.specs.Limits.{match_length}
use Rattle.plain.specs.Match.{Turn, other, seat_number, answer, run}
use Rattle.plain.specs.States.{replayed}
use Rattle.plain.specs.Turns.{CaughtUp}
use Rattle.seat.specs.Views.{View}
use Rattle.refine.specs.Setup.{Setup, rules, Lawful}
use Rattle.refine.specs.Memory.{Entry, SlotLists, Memory, slots_of, with_slots, seat, put_seat, with_log, sent_part, own_lent, cut, own_part}
use Rattle.refine.specs.Outcomes.{Pressing, numbered, result, as_turn}
use Rattle.refine.specs.Standing.{Stands, well_brought}
use Rattle.refine.specs.Laws.{opened, AllSlots, Moments}
use Rattle.refine.specs.Plays.{Step, brought, next, through, told, tale, turns, Roomy, PlaysAsPlain}
use Rattle.refine.specs.Matches as matches
use Rattle.refine.specs.Matches.{GoesAsPlain}
use Rattle.refine.proofs.Logging.{own_seat, other_seat, put_log, put_sent, seat_relogged, same_memory}
use Rattle.refine.proofs.Opening.{opening_stands}
use Rattle.refine.proofs.Matching.{Ready, AllLong, seat_own, acting, waiting, next_acting, next_waiting, next_log, next_sent, acting_after, waiting_after, step_ready, as_lent}
use Rattle.refine.proofs.Matches.{goes}

-- a seat has its own slots alone
abbrev Alone : {I : Type 0} → View I → Type 0
Alone v = AllSlots 32 (slots_of v)

module _ {I : Type 0} where
  alone_as : (v w : View I) → AllLong v w → Alone w → Alone v
  alone_as v w l h = grind arith

  cut_alone : (v : View I) → Alone v → cut own_lent v ≡ v
  cut_alone v h =
      let own = take_all 32 v.own (omega arith) in
      let others = take_all 32 v.others (omega arith) in
      let digests = take_all 32 v.digests (omega arith) in
      λ i. with_slots v (record { own = own i; others = others i; digests = digests i })

  own_sent : (m : Memory I) → ((s : Bool) → Alone (seat m s)) → own_part m ≡ sent_part m
  own_sent m h i = record { seat_0 = cut_alone m.seat_0 (h false) i; seat_1 = cut_alone m.seat_1 (h true) i; log = take m.sent m.log; sent = m.sent }

  log_put : (m : Memory I) (s : Bool) (v : View I) (log log' : List Entry) → with_log (put_seat (with_log m log) s v) log' ≡ with_log (put_seat m s v) log'
  log_put m s v log log' = grind arith

  same_brought : (m : Memory I) (x : Step) → ((s : Bool) → Alone (seat m s)) → brought m x ≡ matches.brought m x
  same_brought m x h =
      let s = numbered x.number in
      let v = cut x.slots (seat m s) in
      sym (ap (λ y. with_log (put_seat y s v) (take x.records m.log)) (own_sent m h) ∙ log_put m s v (take m.sent m.log) (take x.records m.log))

module _ {I : Type 0} (a : Setup I) (lawful : Lawful a) (match_number : ℕ) where
  module _ (ts : List Turn) (m : Memory I) (x : Step) (ready : Ready a match_number ts m) (h : (s : Bool) → Alone (seat m s)) where
    still_alone : (s : Bool) → Alone (seat (matches.next a m x) s)
    still_alone s = alone_as (seat (matches.next a m x) s) (seat m s) ((as_lent a match_number ts m x ready lawful).seats s) (h s)

    same_next : next a m x ≡ matches.next a m x
    same_next =
        let s = numbered x.number in
        let b = matches.brought m x in
        let o = (matches.step_result a m x).left in
        let log = o.log ++ drop x.records m.log in
        let left = cond (well_brought b x.number) (seat o s) (seat m s) in
        ap (λ y. put_seat (with_log (result a y x.number x.call).left ((result a y x.number x.call).left.log ++ drop x.records m.log)) s (cond (well_brought y x.number) (seat (result a y x.number x.call).left s) (seat m s))) (same_brought m x h)
        ∙ same_memory (put_seat (with_log o log) s left) (matches.next a m x) s
        (own_seat (with_log o log) s left
        ∙ ap (λ v. cond (well_brought b x.number) (seat o s) v) (sym (seat_own m s ∙ cut_alone (seat m s) (h s)))
        ∙ acting_after a match_number ts m x ready lawful
        ∙ cut_alone (acting a m x) (subst Alone (next_acting a m x) (still_alone s))
        ∙ sym (next_acting a m x))
        (other_seat (with_log o log) s left
        ∙ seat_relogged o log (other s)
        ∙ waiting_after a match_number ts m x ready lawful
        ∙ cut_alone (waiting a m x) (h (other s))
        ∙ sym (next_waiting a m x))
        (put_log (with_log o log) s left ∙ sym (next_log a m x))
        (put_sent (with_log o log) s left ∙ sym (next_sent a m x))

  -- after any steps: the same match, by the same turns, with its own slots alone
  record Same (m : Memory I) (xs : List Step) : Type 0 where
    pub match : through a m xs ≡ matches.through a m xs
    pub by : turns a m xs ≡ matches.turns a m xs
    pub alone : (s : Bool) → Alone (seat (matches.through a m xs) s)

  same : (ts : List Turn) (m : Memory I) (xs : List Step) → Ready a match_number ts m → ((s : Bool) → Alone (seat m s)) → Same m xs
  unfolding through turns matches.through matches.turns
  same ts m [] ready h = record { match = refl; by = refl; alone = h }
  same ts m (x ∷ xs) ready h =
      let m' = matches.next a m x in
      let t = matches.turn_of m x in
      let e = same_next ts m x ready h in
      let b = same_brought m x h in
      let then = same (ts ++ t ∷ []) m' xs (step_ready a match_number ts m x ready lawful) (still_alone ts m x ready h) in
      record {
        match = ap (λ y. through a y xs) e ∙ then.match;
        by = (λ i. as_turn (b i) x.number x.call ∷ turns a (e i) xs) ∙ ap (λ us. t ∷ us) then.by;
        alone = then.alone;
      }

  tale_tells : (m : Memory I) (xs more : List Step) (x : Step) → slice_get (tale a m (xs ++ x ∷ more)) (length xs) ≡ Some (told a (through a m xs) x)
  unfolding through tale
  tale_tells m [] more x = refl
  tale_tells m (y ∷ xs) more x = tale_tells (next a m y) xs more x

  module _ (m : Memory I) (ready : Ready a match_number [] m) (h : (s : Bool) → Alone (seat m s)) where
    all_same : (xs : List Step) → Same m xs
    all_same xs = same [] m xs ready h

    -- what holds of a match after some steps, of what the next is brought and of the turns
    all_hold : (P : Memory I → Memory I → List Turn → Type 0) (xs : List Step) (x : Step) → P (matches.through a m xs) (matches.brought (matches.through a m xs) x) (matches.turns a m xs) → P (through a m xs) (brought (through a m xs) x) (turns a m xs)
    all_hold P xs x holds =
        let e = all_same xs in
        let b : matches.brought (matches.through a m xs) x ≡ brought (through a m xs) x = sym (ap (λ y. brought y x) e.match ∙ same_brought (matches.through a m xs) x e.alone) in
        let p = sym e.match in
        let q = sym e.by in
        subst (λ (z : Memory I × Memory I × List Turn). P z.0 z.1 z.2) (λ i. (p i, b i, q i)) holds

    plays : PlaysAsPlain a match_number m
    plays =
        let more = goes a lawful match_number m ready in
        record {
          stands = λ xs.
              let e = all_same xs in
              subst (λ us. Stands a match_number us (sent_part (through a m xs))) (sym e.by)
              (subst (λ y. Stands a match_number (matches.turns a m xs) y) (own_sent (matches.through a m xs) e.alone ∙ ap sent_part (sym e.match)) (more.stands xs));
          answers = λ xs x. all_hold (λ y b us. (result a b x.number x.call).code ≡ answer (rules a) (run (rules a) us) (as_turn b x.number x.call)) xs x (more.answers xs x);
          replays = λ xs x. all_hold (λ y b us. (result a b x.number x.call).frames ≡ replayed (rules a) (run (rules a) us) (as_turn b x.number x.call)) xs x (more.replays xs x);
          tells = tale_tells m;
          agree = λ xs later.
              let p = sym (all_same xs).match in
              let q = sym (all_same (xs ++ later)).match in
              subst (λ (z : Memory I × Memory I). Moments z.0 z.1) (λ i. (p i, q i)) (more.agree xs later);
          presses_go_on = λ xs s code l records i.
              let x : Step = record { number = seat_number s; call = Pressing code; slots = l; records = records } in
              all_hold (λ y b us. CaughtUp (rules a) us s → (seat y s).played ≤ (seat y (other s)).played → (seat y s).played < match_length → well_brought b (seat_number s) ≡ true → a.reads code ≡ Some i → (result a b (seat_number s) (Pressing code)).code ≡ accepted) xs x
              (more.presses_go_on xs s code l records i);
        }

pub fresh_plays : {I : Type 0} (a : Setup I) → Lawful a → (match_number : ℕ) (x y : SlotLists I) (log : List Entry) → match_number < 2 ^ 16 → AllSlots 32 x → AllSlots 32 y → Roomy log → PlaysAsPlain a match_number (opened a.opening match_number x y log)
fresh_plays {I} a lawful match_number x y log small hx hy roomy =
    let m = opened a.opening match_number x y log in
    let alone : (s : Bool) → Alone (seat m s) = λ s. grind (arith, length-set) in
    plays a lawful match_number m (record { stood = subst (λ z. Stands a match_number [] z) (sym (own_sent m alone)) (opening_stands a match_number x y log small hx hy); roomy = roomy }) alone

-- Every list of steps on a fresh match.
use Rattle.std.proofs.Common.{◌≡◌, ℕ, ◌+◌, ◌^◌, ◌<◌, ◌≤◌, Bool, true, false, List, [], ◌∷◌, ◌++◌, map, Some, sym, ap, ◌∙◌, subst, arith}
use Rattle.interface.specs.Answers.{accepted}
use Rattle.interface.specs.Games.{State}
use Rattle.interface.specs.Limits.{match_length, most_listed}
use Rattle.plain.specs.Rules.{Rules}
use Rattle.plain.specs.Match.{Lent, other, played, known, fresh, seat_number, run}
use Rattle.plain.specs.States.{truth}
use Rattle.plain.specs.Turns.{CaughtUp}
use Rattle.plain.proofs.Counting.{sound}
use Rattle.seat.specs.Views.{View, confirmed}
use Rattle.refine.specs.Setup.{Setup, rules, Lawful}
use Rattle.refine.specs.Memory.{Entry, SlotLists, Memory, seat, own_part}
use Rattle.refine.specs.Outcomes.{Pressing, numbered}
use Rattle.refine.specs.Standing.{SeatStands, Stands, well_brought}
use Rattle.refine.specs.Laws.{opened, Lists, ListsConfirmed, Moments, OneOf, match_answers}
use Rattle.refine.specs.Plays.{Step, Roomy}
use Rattle.refine.specs.Matches.{brought, turn_of, step_result, next, through, told, turns, plain_tale, EnoughSlots, GoesAsPlain}
use Rattle.refine.proofs.Opening.{opening_stands_within}
use Rattle.refine.proofs.Moments.{moments, lists_the_truth, lists_last, press_never_refused}
use Rattle.refine.proofs.Matching.{Ready, seat_own, step_brings, step_goes, all_ready, through_append, turns_append, tale_tells, turns_alone, same_lent, tells_plain}
use Rattle.refine.proofs.Refusing.{usual}

-- what is said of a seat, whatever its slots
module _ {I : Type 0} (m : Memory I) (s : Bool) where
  listed_own : (n : ℕ) (x : State) → Lists (seat m s) n x → Lists (seat (own_part m) s) n x
  listed_own n x l = subst (λ v. Lists v n x) (sym (seat_own m s)) l

  confirmed_own : (n : ℕ) (x : State) → ListsConfirmed (seat m s) n x → ListsConfirmed (seat (own_part m) s) n x
  confirmed_own n x l = subst (λ v. ListsConfirmed v n x) (sym (seat_own m s)) l

  own_confirmed : (n : ℕ) (x : State) → ListsConfirmed (seat (own_part m) s) n x → ListsConfirmed (seat m s) n x
  own_confirmed n x l = subst (λ v. ListsConfirmed v n x) (seat_own m s) l

  count_own : (seat (own_part m) s).played ≡ (seat m s).played
  count_own = ap (λ (v : View I). v.played) (seat_own m s)

  known_own : (seat (own_part m) s).known ≡ (seat m s).known
  known_own = ap (λ (v : View I). v.known) (seat_own m s)

moments_own : {I : Type 0} (m m' : Memory I) → Moments (own_part m) (own_part m') → Moments m m'
moments_own m m' h =
    record {
      never_parts = λ s. subst (λ v. v.parted ≡ false) (seat_own m s) (h.never_parts s);
      stays_confirmed = λ s. omega (arith, h.stays_confirmed s, count_own m s, known_own m s, count_own m' s, known_own m' s);
      never_changes = λ s n x y l l'. h.never_changes s n x y (confirmed_own m s n x l) (listed_own m' s n y l');
      all_agree = λ s t n x y l l'. h.all_agree s t n x y (confirmed_own m s n x l) (confirmed_own m' t n y l');
    }

module _ {I : Type 0} (a : Setup I) (lawful : Lawful a) (match_number : ℕ) (m : Memory I) (ready : Ready a match_number [] m) where
  abbrev r : Rules State I
  r = rules a

  ready_after : (xs : List Step) → Ready a match_number (turns a m xs) (through a m xs)
  ready_after xs = all_ready a lawful match_number [] m xs ready

  stands_more : (xs more : List Step) → Stands a match_number (turns a m xs ++ turns a (through a m xs) more) (own_part (through a m (xs ++ more)))
  stands_more xs more = subst (λ us. Stands a match_number us (own_part (through a m (xs ++ more)))) (turns_append a m xs more) (ready_after (xs ++ more)).stood

  agree : (xs more : List Step) → Moments (through a m xs) (through a m (xs ++ more))
  agree xs more =
      let m' = through a m xs in
      let m'' = through a m (xs ++ more) in
      moments_own m' m'' (moments a match_number (turns a m xs) (turns a m' more) (own_part m') (own_part m'') (ready_after xs).stood (stands_more xs more))

  truths : (xs more : List Step) (s t : Bool) (n : ℕ) (y : State) → n ≤ confirmed (seat (through a m xs) s) → ListsConfirmed (seat (through a m (xs ++ more)) t) n y → y ≡ truth r (run r (turns a m xs)) n
  truths xs more s t n y low l =
      let m' = through a m xs in
      let m'' = through a m (xs ++ more) in
      lists_the_truth a match_number (turns a m xs) (turns a m' more) (own_part m') (own_part m'') (ready_after xs).stood (stands_more xs more) s t n y (omega (arith, count_own m' s, known_own m' s)) (confirmed_own m'' t n y l)

  lasts : (xs : List Step) (s : Bool) (n : ℕ) → let v = seat (through a m xs) s in n ≤ confirmed v → v.played < n + most_listed → ListsConfirmed v n (truth r (run r (turns a m xs)) n)
  lasts xs s n low near =
      let m' = through a m xs in
      own_confirmed m' s n _ (lists_last a match_number (turns a m xs) (own_part m') (ready_after xs).stood s n (omega (arith, count_own m' s, known_own m' s)) (omega (arith, count_own m' s)))

  presses : (xs : List Step) (s : Bool) (code : ℕ) (l : Lent) (records : ℕ) (i : I) → let m' = through a m xs in let x : Step = record { number = seat_number s; call = Pressing code; slots = l; records = records } in CaughtUp r (turns a m xs) s → (seat m' s).played ≤ (seat m' (other s)).played → (seat m' s).played < match_length → well_brought (brought m' x) (seat_number s) ≡ true → a.reads code ≡ Some i → (step_result a m' x).code ≡ accepted
  presses xs s code l records i caught level room well reads =
      let m' = through a m xs in
      let x : Step = record { number = seat_number s; call = Pressing code; slots = l; records = records } in
      press_never_refused a match_number (turns a m xs) lawful match_length (omega arith) (own_part m') (brought m' x) s code i (ready_after xs).stood
      (step_brings a match_number (turns a m xs) m' x (ready_after xs)) well caught (omega (arith, count_own m' s, count_own m' (other s))) (omega (arith, count_own m' s)) reads

  counts : (xs : List Step) (x : Step) → let p = run r (turns a m (xs ++ x ∷ [])) in ((told a (through a m xs) x).played ≡ played p (numbered x.number)) × ((told a (through a m xs) x).known ≡ known p (numbered x.number))
  unfolding through
  counts xs x =
      let s = numbered x.number in
      let m' = next a (through a m xs) x in
      let is : through a m (xs ++ x ∷ []) ≡ m' = through_append a m xs (x ∷ []) in
      let held : SeatStands r match_number (run r (turns a m (xs ++ x ∷ []))) s (seat (own_part m') s) = subst (λ y. SeatStands r match_number (run r (turns a m (xs ++ x ∷ []))) s (seat (own_part y) s)) is ((ready_after (xs ++ x ∷ [])).stood.seats s) in
      (sym (count_own m' s) ∙ held.its_played, sym (known_own m' s) ∙ held.its_known)

  alone : (xs : List Step) → turns a m xs ≡ map (turn_of m) xs
  alone xs = turns_alone a lawful match_number [] m m xs ready (same_lent a lawful match_number m)

  pub goes : GoesAsPlain a match_number m
  goes =
      record {
        stands = λ xs. (ready_after xs).stood;
        answers = λ xs x. (step_goes a match_number (turns a m xs) (through a m xs) x (ready_after xs) lawful).answers;
        usual_answers = λ xs x.
            subst (λ k. OneOf match_answers k) (sym (step_goes a match_number (turns a m xs) (through a m xs) x (ready_after xs) lawful).answers)
            (usual r (run r (turns a m xs)) (turn_of (through a m xs) x) (sound r (turns a m xs)).counts);
        replays = λ xs x. (step_goes a match_number (turns a m xs) (through a m xs) x (ready_after xs) lawful).replays;
        replays_frames = λ xs x. (step_goes a match_number (turns a m xs) (through a m xs) x (ready_after xs) lawful).replays_frames;
        turns_alone = alone;
        tells_plain = λ xs. tells_plain a lawful match_number [] m xs ready ∙ ap (plain_tale r fresh) (alone xs);
        tells = tale_tells a m;
        tells_counts = counts;
        agree = agree;
        lists_the_truth = truths;
        lists_last = lasts;
        presses_go_on = presses;
      }

pub fresh_plays : {I : Type 0} (a : Setup I) → Lawful a → (match_number : ℕ) (x y : SlotLists I) (log : List Entry) → match_number < 2 ^ 16 → EnoughSlots 32 x → EnoughSlots 32 y → Roomy log → GoesAsPlain a match_number (opened a.opening match_number x y log)
fresh_plays a lawful match_number x y log small hx hy roomy = goes a lawful match_number (opened a.opening match_number x y log) (record { stood = opening_stands_within a match_number x y log small hx hy; roomy = roomy })

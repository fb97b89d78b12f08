-- A whole list of steps on a fresh match.
use Rattle.std.proofs.Common.{◌≡◌, ℕ, ◌≤◌, Bool, true, false, cond, not, eqb, ltb, List, [], ◌∷◌, ◌++◌, map, length, take, drop, Some, None, Option, sym, refl, ap, ◌∙◌, subst, ⊎_elim, arith}
use Rattle.std.specs.List.{slice_get}
use Rattle.std.proofs.lemmas.List.{append_assoc, append-nil, take-append-drop, take_all, take_at, length-take, get_or-take}
use Rattle.std.proofs.lemmas.Bool.{cases_Bool, cond-true, cond-false, and_parts, eqb-true}
use Rattle.std.proofs.lemmas.Bool.Decides.{nat_tests}
use Rattle.std.proofs.lemmas.Grind.{common_steps}
use Rattle.interface.specs.declared.answers.Refusal.{Refusal}
use Rattle.plain.specs.Match.{Lent, Turn, Send, Take, turn, other, played, known, unless_refused, answered, run}
use Rattle.plain.proofs.Steps.{run_more}
use Rattle.seat.specs.Views.{View, rightly_lent}
use Rattle.seat.specs.Calls as calls
use Rattle.refine.specs.Setup.{Setup, setting_of, rules, Lawful}
use Rattle.refine.specs.Memory.{Entry, SlotLists, Memory, slots_of, with_slots, seat, put_seat, with_log, no_entry, entry, own_lent, fronts, joined, cut, own_part}
use Rattle.refine.specs.Outcomes.{Call, Pressing, Sending, Taking, outcome, numbered, check, made, result, lent, move}
use Rattle.refine.specs.Standing.{SeatStands, Stands, well_brought, Brings, HasRoom, returned, GoesOn}
use Rattle.refine.specs.Plays.{Step, Roomy}
use Rattle.refine.specs.Matches.{brought, turn_of, step_result, next, through, told, tale, turns, plain_told, plain_tale}
use Rattle.refine.proofs.Logging.{both, own_seat, other_seat, put_log, put_sent, seat_relogged, seat_kept, same_memory}
use Rattle.refine.proofs.Results.{no_such_seat, bad_slots}
use Rattle.refine.proofs.Calling.{goes_on}
use Rattle.refine.proofs.Leaving.{Left, log_left, left_long, whole_again, roomy_again}

-- a call that is not well brought leaves all
pub refused_left : {I : Type 0} (a : Setup I) (b : Memory I) (n : ℕ) (c : Call) → well_brought b n ≡ false → (result a b n c).left ≡ b
refused_left a b n c wrong = grind (arith, nat_tests, no_such_seat, bad_slots)

-- no call changes the seat that it is not of
other_left : {I : Type 0} (a : Setup I) (b : Memory I) (n : ℕ) (c : Call) → seat (result a b n c).left (other (numbered n)) ≡ seat b (other (numbered n))
unfolding result
other_left a b n c = at c (check b n c)
  where
    sent : (o : Option Refusal) (log : List Entry) (k : ℕ) → seat (unless_refused o b (record { seat_0 = b.seat_0; seat_1 = b.seat_1; log = log; sent = k })) (other (numbered n)) ≡ seat b (other (numbered n))
    sent None log k = seat_kept b log k (other (numbered n))
    sent (Some why) log k = refl

    at : (c : Call) (o : Option Refusal) → seat (unless_refused o (outcome b (answered o) 0) (made a b (numbered n) c)).left (other (numbered n)) ≡ seat b (other (numbered n))
    at c (Some why) = refl
    at (Pressing code) None = other_seat b (numbered n) _
    at (Taking k) None = other_seat b (numbered n) _
    at Sending None = sent (calls.send_refusal (setting_of a (numbered n)) (seat b (numbered n)) (entry b b.sent).bytes) _ _

-- fronts of 32 are all the same
front_own : {T : Type 0} (c : ℕ) (xs : List T) → eqb (length (take c xs)) 32 ≡ true → take c xs ≡ take 32 xs
front_own c xs e = let is = eqb-true _ _ e in let short = length-take c xs in let all = take_all c xs in let all' = take_all 32 xs in grind arith

cut_own : {I : Type 0} (l : Lent) (v : View I) → rightly_lent (cut l v) ≡ true → cut l v ≡ cut own_lent v
cut_own l v e =
    let x = and_parts _ _ e in
    let y = and_parts _ _ x.0 in
    let own = front_own l.own_slots v.own y.0 in
    let others = front_own l.other_slots v.others y.1 in
    let digests = front_own l.digest_slots v.digests x.1 in
    λ i. with_slots v (record { own = own i; others = others i; digests = digests i })

-- what was lent and left, put together again
front_again : {T : Type 0} (ys zs : List T) → length ys ≡ 32 → take 32 (ys ++ zs) ≡ ys
front_again ys zs long = take_at ys zs 32 long

joined_fronts : {I : Type 0} (l : Lent) (x : SlotLists I) → joined l (fronts l x) x ≡ x
joined_fronts l x i = record { own = take-append-drop l.own_slots x.own i; others = take-append-drop l.other_slots x.others i; digests = take-append-drop l.digest_slots x.digests i }

pub seat_own : {I : Type 0} (m : Memory I) (t : Bool) → seat (own_part m) t ≡ cut own_lent (seat m t)
seat_own m t = grind arith

-- slots in the same numbers
abbrev pub AllLong : {I : Type 0} → View I → View I → Type 0
AllLong v w = (length v.own ≡ length w.own) × (length v.others ≡ length w.others) × (length v.digests ≡ length w.digests)

-- the same numbers of slots and records are brought
pub record AsLent {I : Type 0} (m m' : Memory I) : Type 0 where
  pub seats : (s : Bool) → AllLong (seat m s) (seat m' s)
  pub log : length m.log ≡ length m'.log

lent_as : {I : Type 0} (m m' m'' : Memory I) → AsLent m m' → AsLent m' m'' → AsLent m m''
lent_as m m' m'' h k = record { seats = λ s. ((h.seats s).0 ∙ (k.seats s).0, (h.seats s).1 ∙ (k.seats s).1, (h.seats s).2 ∙ (k.seats s).2); log = h.log ∙ k.log }

front_as : {T : Type 0} (c : ℕ) (xs ys : List T) → length xs ≡ length ys → length (take c xs) ≡ length (take c ys)
front_as c xs ys e = grind (arith, common_steps)

-- a turn is fixed by the numbers lent
turn_as : {I : Type 0} (m m' : Memory I) (x : Step) → AsLent m m' → turn_of m x ≡ turn_of m' x
turn_as m m' x h =
    let s = numbered x.number in
    let e = λ (k : Memory _). seat_relogged (put_seat (own_part k) s (cut x.slots (seat k s))) (take x.records k.log) s ∙ own_seat (own_part k) s (cut x.slots (seat k s)) in
    let own = front_as x.slots.own_slots (seat m s).own (seat m' s).own (h.seats s).0 in
    let others = front_as x.slots.other_slots (seat m s).others (seat m' s).others (h.seats s).1 in
    let digests = front_as x.slots.digest_slots (seat m s).digests (seat m' s).digests (h.seats s).2 in
    let slots : lent (seat (brought m x) s) ≡ lent (seat (brought m' x) s) =
    ap lent (e m) ∙ (λ i. record { own_slots = own i; other_slots = others i; digest_slots = digests i }) ∙ sym (ap lent (e m')) in
    let moves = move_as m m' x h.log x.call in
    λ i. turn x.number (slots i) (moves i)
  where
    move_as : {I : Type 0} (m m' : Memory I) (x : Step) → length m.log ≡ length m'.log → (c : Call) → move (brought m x) c ≡ move (brought m' x) c
    move_as m m' x e (Pressing code) = refl
    move_as m m' x e Sending = ap Send (front_as x.records m.log m'.log e)
    move_as m m' x e (Taking k) = ap (Take k) (front_as x.records m.log m'.log e)

-- the parts of the match after a step
module _ {I : Type 0} (a : Setup I) (m : Memory I) (x : Step) where
  abbrev by : Bool
  by = numbered x.number

  abbrev left : Memory I
  left = (step_result a m x).left

  abbrev pub acting : View I
  acting = with_slots (seat left by) (joined x.slots (slots_of (seat left by)) (slots_of (seat m by)))

  abbrev pub waiting : View I
  waiting = with_slots (seat left (other by)) (slots_of (seat m (other by)))

  abbrev whole : List Entry
  whole = left.log ++ drop x.records m.log

  abbrev half : Memory I
  half = put_seat (with_log left whole) (other by) waiting

  pub next_acting : seat (next a m x) by ≡ acting
  next_acting = own_seat half by acting

  pub next_waiting : seat (next a m x) (other by) ≡ waiting
  next_waiting = other_seat half by acting ∙ own_seat (with_log left whole) (other by) waiting

  pub next_log : (next a m x).log ≡ whole
  next_log = put_log half by acting ∙ put_log (with_log left whole) (other by) waiting

  pub next_sent : (next a m x).sent ≡ left.sent
  next_sent = put_sent half by acting ∙ put_sent (with_log left whole) (other by) waiting

-- a match that stands, with all that the caller brought
pub record Ready {I : Type 0} (a : Setup I) (match_number : ℕ) (ts : List Turn) (m : Memory I) : Type 0 where
  pub stood : Stands a match_number ts (own_part m)
  pub roomy : Roomy m.log

module _ {I : Type 0} (a : Setup I) (match_number : ℕ) (ts : List Turn) (m : Memory I) (x : Step) (ready : Ready a match_number ts m) where
  abbrev n : ℕ
  n = x.number

  abbrev s : Bool
  s = numbered n

  abbrev b : Memory I
  b = brought m x

  brought_acting : seat b s ≡ cut x.slots (seat m s)
  brought_acting = grind arith

  -- by hand, as grind stops at its limit here
  brought_other : seat b (other s) ≡ seat (own_part m) (other s)
  brought_other = seat_relogged (put_seat (own_part m) s (cut x.slots (seat m s))) (take x.records m.log) (other s) ∙ other_seat (own_part m) s (cut x.slots (seat m s))

  brought_sent : b.sent ≡ m.sent
  brought_sent = put_sent (own_part m) s (cut x.slots (seat m s))

  enough : m.sent ≤ length m.log
  enough = omega (arith, ready.stood.all_logged, length-take m.sent m.log)

  rightly : well_brought b n ≡ true → rightly_lent (cut x.slots (seat m s)) ≡ true
  rightly well = subst (λ w. rightly_lent w ≡ true) brought_acting (and_parts (not (ltb 1 n)) (rightly_lent (seat b s)) well).1

  pub step_brings : Brings (own_part m) b n
  step_brings =
      record {
        own_slots = λ well. brought_acting ∙ cut_own x.slots (seat m s) (rightly well) ∙ sym (seat_own m s);
        same_seat =
            brought_acting
            ∙ ap (λ w. with_slots w (slots_of (cut x.slots (seat m s)))) (sym (seat_own m s))
            ∙ ap (λ w. with_slots (seat (own_part m) s) (slots_of w)) (sym brought_acting);
        same_other = brought_other;
        same_sent = brought_sent;
        same_log = λ k low inside.
            let short = length-take x.records m.log in
            get_or-take x.records m.log k no_entry (omega arith) ∙ sym (get_or-take m.sent m.log k no_entry low);
      }

  step_room : (c : Call) → HasRoom b c
  step_room (Pressing code) = tt
  step_room (Taking k) = tt
  step_room Sending = λ inside. let room = ready.roomy b.sent in grind (arith, get_or-take, length-take)

  module _ (lawful : Lawful a) where
    abbrev o : Memory I
    o = (step_result a m x).left

    left_log : Left (take x.records m.log) o.log m.sent o.sent
    left_log = subst (λ k. Left (take x.records m.log) o.log k o.sent) brought_sent (log_left a b n x.call)

    pub step_goes : GoesOn a match_number ts (own_part m) b n x.call (step_result a m x)
    step_goes = goes_on a lawful match_number ts (own_part m) b n ready.stood step_brings x.call (step_room x.call)

    abbrev log₁ : List Entry
    log₁ = take m.sent m.log ++ drop m.sent (take o.sent o.log)

    still_stands : well_brought b n ≡ true → SeatStands (rules a) match_number (run (rules a) (ts ++ turn_of m x ∷ [])) s (seat o s)
    still_stands well =
        subst (λ w. SeatStands (rules a) match_number (run (rules a) (ts ++ turn_of m x ∷ [])) s w)
        (own_seat (with_log o log₁) s (cond (well_brought b n) (seat o s) (seat (own_part m) s)) ∙ cond-true _ _ _ well)
        (step_goes.stands.seats s)

    untouched : well_brought b n ≡ false → seat o s ≡ cut x.slots (seat m s)
    untouched wrong = ap (λ y. seat y s) (refused_left a b n x.call wrong) ∙ brought_acting

    -- the acting seat with its own slots, whether it was well brought or not
    pub acting_after : cond (well_brought b n) (seat o s) (seat (own_part m) s) ≡ cut own_lent (acting a m x)
    acting_after =
        ⊎_elim
        (λ (well : well_brought b n ≡ true).
        let held = still_stands well in
        let own = front_again (seat o s).own (drop x.slots.own_slots (seat m s).own) held.own_held.whole in
        let others = front_again (seat o s).others (drop x.slots.other_slots (seat m s).others) held.others_held.whole in
        let digests = front_again (seat o s).digests (drop x.slots.digest_slots (seat m s).digests) held.digests_held.whole in
        cond-true _ _ _ well ∙ sym (λ i. with_slots (seat o s) (record { own = own i; others = others i; digests = digests i })))
        (λ (wrong : well_brought b n ≡ false).
        cond-false _ _ _ wrong
        ∙ seat_own m s
        ∙ ap (λ y. cut own_lent (with_slots (seat m s) y)) (sym (joined_fronts x.slots (slots_of (seat m s))))
        ∙ ap (λ w. cut own_lent (with_slots w (joined x.slots (slots_of w) (slots_of (seat m s))))) (sym (untouched wrong)))
        (cases_Bool (well_brought b n))

    -- the other with its own
    pub waiting_after : seat o (other s) ≡ cut own_lent (waiting a m x)
    waiting_after =
        let is : seat o (other s) ≡ cut own_lent (seat m (other s)) = other_left a b n x.call ∙ brought_other ∙ seat_own m (other s) in
        is ∙ ap (λ w. cut own_lent (with_slots w (slots_of (seat m (other s))))) (sym is)

    same_after : returned (own_part m) b n o ≡ own_part (next a m x)
    same_after =
        let w = cond (well_brought b n) (seat o s) (seat (own_part m) s) in
        let m' = next a m x in
        same_memory (returned (own_part m) b n o) (own_part m') s
        (own_seat (with_log o log₁) s w ∙ acting_after ∙ ap (cut own_lent) (sym (next_acting a m x)) ∙ sym (seat_own m' s))
        (other_seat (with_log o log₁) s w ∙ seat_relogged o log₁ (other s) ∙ waiting_after ∙ ap (cut own_lent) (sym (next_waiting a m x)) ∙ sym (seat_own m' (other s)))
        (put_log (with_log o log₁) s w ∙ whole_again m.log x.records m.sent o.sent o.log left_log ∙ ap (take o.sent) (sym (next_log a m x)) ∙ ap (λ k. take k m'.log) (sym (next_sent a m x)))
        (put_sent (with_log o log₁) s w ∙ sym (next_sent a m x))

    pub step_ready : Ready a match_number (ts ++ turn_of m x ∷ []) (next a m x)
    step_ready =
        record {
          stood = subst (λ y. Stands a match_number (ts ++ turn_of m x ∷ []) y) same_after step_goes.stands;
          roomy = subst Roomy (sym (next_log a m x)) (roomy_again m.log x.records m.sent o.sent o.log left_log ready.roomy);
        }

    -- the numbers of slots and records never change

    joined_long : {T : Type 0} (c : ℕ) (xs ys : List T) → length ys ≡ length (take c xs) → length (ys ++ drop c xs) ≡ length xs
    joined_long c xs ys e = grind (arith, common_steps)

    acting_long : AllLong (acting a m x) (seat m s)
    acting_long =
        ⊎_elim
        (λ (well : well_brought b n ≡ true).
        let held = still_stands well in
        let p = and_parts _ _ (rightly well) in
        let q = and_parts _ _ p.0 in (
          joined_long x.slots.own_slots (seat m s).own (seat o s).own (held.own_held.whole ∙ sym (eqb-true _ _ q.0)),
          joined_long x.slots.other_slots (seat m s).others (seat o s).others (held.others_held.whole ∙ sym (eqb-true _ _ q.1)),
          joined_long x.slots.digest_slots (seat m s).digests (seat o s).digests (held.digests_held.whole ∙ sym (eqb-true _ _ p.1)),
        ))
        (λ (wrong : well_brought b n ≡ false).
        let all = ap (λ w. joined x.slots (slots_of w) (slots_of (seat m s))) (untouched wrong) ∙ joined_fronts x.slots (slots_of (seat m s)) in
        (ap (λ (y : SlotLists I). length y.own) all, ap (λ (y : SlotLists I). length y.others) all, ap (λ (y : SlotLists I). length y.digests) all))
        (cases_Bool (well_brought b n))

    pub as_lent : AsLent (next a m x) m
    as_lent =
        record {
          seats = both (λ t. AllLong (seat (next a m x) t) (seat m t)) s
              (subst (λ w. AllLong w (seat m s)) (sym (next_acting a m x)) acting_long)
              (subst (λ w. AllLong w (seat m (other s))) (sym (next_waiting a m x)) (refl, refl, refl));
          log = ap length (next_log a m x) ∙ joined_long x.records m.log o.log (left_long (take x.records m.log) o.log m.sent o.sent left_log);
        }

module _ {I : Type 0} (a : Setup I) (lawful : Lawful a) (match_number : ℕ) where
  pub all_ready : (ts : List Turn) (m : Memory I) (xs : List Step) → Ready a match_number ts m → Ready a match_number (ts ++ turns a m xs) (through a m xs)
  unfolding through turns
  all_ready ts m [] ready = subst (λ us. Ready a match_number us m) (sym (append-nil ts)) ready
  all_ready ts m (x ∷ xs) ready =
      subst (λ us. Ready a match_number us (through a (next a m x) xs)) (append_assoc ts (turn_of m x ∷ []) (turns a (next a m x) xs))
      (all_ready (ts ++ turn_of m x ∷ []) (next a m x) xs (step_ready a match_number ts m x ready lawful))

module _ {I : Type 0} (a : Setup I) where
  pub through_append : (m : Memory I) (xs ys : List Step) → through a m (xs ++ ys) ≡ through a (through a m xs) ys
  unfolding through
  through_append m [] ys = refl
  through_append m (x ∷ xs) ys = through_append (next a m x) xs ys

  pub turns_append : (m : Memory I) (xs ys : List Step) → turns a m (xs ++ ys) ≡ turns a m xs ++ turns a (through a m xs) ys
  unfolding through turns
  turns_append m [] ys = refl
  turns_append m (x ∷ xs) ys = ap (λ us. turn_of m x ∷ us) (turns_append (next a m x) xs ys)

  pub tale_tells : (m : Memory I) (xs more : List Step) (x : Step) → slice_get (tale a m (xs ++ x ∷ more)) (length xs) ≡ Some (told a (through a m xs) x)
  unfolding through tale
  tale_tells m [] more x = refl
  tale_tells m (y ∷ xs) more x = tale_tells (next a m y) xs more x

-- the turns are those of the first moment, and what is told of them is what the plain match tells
module _ {I : Type 0} (a : Setup I) (lawful : Lawful a) (match_number : ℕ) where
  pub turns_alone : (ts : List Turn) (m m' : Memory I) (xs : List Step) → Ready a match_number ts m' → AsLent m' m → turns a m' xs ≡ map (turn_of m) xs
  unfolding turns
  turns_alone ts m m' [] ready same = refl
  turns_alone ts m m' (x ∷ xs) ready same =
      let t = turn_of m' x in
      ap (λ u. u ∷ turns a (next a m' x) xs) (turn_as m' m x same)
      ∙ ap (λ us. turn_of m x ∷ us) (turns_alone (ts ++ t ∷ []) m (next a m' x) xs (step_ready a match_number ts m' x ready lawful) (lent_as (next a m' x) m' m (as_lent a match_number ts m' x ready lawful) same))

  pub same_lent : (m : Memory I) → AsLent m m
  same_lent m = record { seats = λ s. (refl, refl, refl); log = refl }

  told_plain : (ts : List Turn) (m : Memory I) (x : Step) → Ready a match_number ts m → told a m x ≡ plain_told (rules a) (run (rules a) ts) (turn_of m x)
  told_plain ts m x ready =
      let r = rules a in
      let t = turn_of m x in
      let s = numbered x.number in
      let m' = next a m x in
      let goes = step_goes a match_number ts m x ready lawful in
      let held = (step_ready a match_number ts m x ready lawful).stood.seats s in
      let grows = ap (λ q. played q s) (run_more r ts t) in
      let knows = ap (λ q. known q s) (run_more r ts t) in
      let p = sym (ap (λ (v : View I). v.played) (seat_own m' s)) ∙ held.its_played ∙ grows in
      let k = sym (ap (λ (v : View I). v.known) (seat_own m' s)) ∙ held.its_known ∙ knows in
      let e = goes.answers in
      let f = goes.replays in
      λ i. record { code = e i; frames = f i; played = p i; known = k i }

  pub tells_plain : (ts : List Turn) (m : Memory I) (xs : List Step) → Ready a match_number ts m → tale a m xs ≡ plain_tale (rules a) (run (rules a) ts) (turns a m xs)
  unfolding tale turns plain_tale
  tells_plain ts m [] ready = refl
  tells_plain ts m (x ∷ xs) ready =
      let r = rules a in
      let t = turn_of m x in
      ap (λ y. y ∷ tale a (next a m x) xs) (told_plain ts m x ready)
      ∙ ap (λ ys. plain_told r (run r ts) t ∷ ys) (tells_plain (ts ++ t ∷ []) (next a m x) xs (step_ready a match_number ts m x ready lawful) ∙ ap (λ q. plain_tale r q (turns a (next a m x) xs)) (run_more r ts t))

-- A whole list of turns on a fresh match.
use Rattle.std.proofs.Common.{◌≡◌, ℕ, ◌^◌, ◌<◌, ◌≤◌, Bool, true, false, eqb, List, ◌++◌, map, length, take, drop, set, None, sym, ap, ◌∙◌, arith}
use Rattle.std.proofs.lemmas.List.{take-append-drop, set-append_left, length-take}
use Rattle.std.proofs.lemmas.Bool.{cond-false, and_parts, and_from, not_from_true, leb-true, le-ltb, eq-eqb}
use Rattle.interface.specs.Digest.{digest_of}
use Rattle.interface.specs.Games.{State}
use Rattle.interface.specs.Keepers.{Kept}
use Rattle.seat.specs.Views.{View}
use Rattle.refine.specs.Setup.{Setup, Lawful}
use Rattle.refine.specs.Memory.{Entry, SlotLists, Memory, slots_of, with_slots, own_lent, fronts, joined}
use Rattle.refine.specs.Laws.{opened, opened_seat}
use Rattle.refine.specs.Matches.{through, tale, EnoughSlots, GoesAsPlain}
use Rattle.refine.proofs.Matches.{fresh_plays}
use Rattle.match_engine.specs.declared.log.Record.{Record}
use Rattle.match_engine.specs.declared.state.Match.{Match}
use Rattle.match_engine.specs.Log.{entries}
use Rattle.match_engine.specs.Meaning.{whole_memory, whole_slots}
use Rattle.match_engine.proofs.Logs.{all_roomy}
use Rattle.play.specs.declared.turns.Turn.{Turn}
use Rattle.play.specs.declared.turns.Told.{Told}
use Rattle.play.specs.Turns.{steps_of, told_of}
use Rattle.play.specs.Promise.{enough_slots, play_refusal, Played}

front_size : {T : Type 0} (xs : List T) → 32 ≤ length xs → 32 ≡ length (take 32 xs)
front_size xs long = let short = length-take 32 xs in omega arith

front_whole : {T : Type 0} (xs : List T) → 32 ≤ length xs → eqb (length (take 32 xs)) 32 ≡ true
front_whole xs long = let short = length-take 32 xs in eq-eqb (length (take 32 xs)) 32 (omega arith)

module _ {I : Type 0} where
  pub enough : (x : SlotLists I) → enough_slots x ≡ true → EnoughSlots 32 x
  enough x e =
      let p = and_parts _ _ e in
      let q = and_parts _ _ p.0 in
      record { own = leb-true _ _ q.0; others = leb-true _ _ q.1; digests = leb-true _ _ p.1 }

  -- so the own slots are all there
  pub has_own : (x : SlotLists I) → enough_slots x ≡ true → (32 ≡ length (take 32 x.own)) × (32 ≡ length (take 32 x.others)) × (32 ≡ length (take 32 x.digests))
  has_own x h = let e = enough x h in (front_size x.own e.own, front_size x.others e.others, front_size x.digests e.digests)

  pub own_whole : (x : SlotLists I) → enough_slots x ≡ true → whole_slots (fronts own_lent x) ≡ true
  own_whole x h = let e = enough x h in and_from _ _ (and_from _ _ (front_whole x.own e.own) (front_whole x.others e.others)) (front_whole x.digests e.digests)

  pub accepts : (x y : SlotLists I) (ts : List Turn) (told : List Told) → enough_slots x ≡ true → enough_slots y ≡ true → length ts ≤ length told → play_refusal x y ts told ≡ None
  accepts x y ts told hx hy room = cond-false _ _ _ (not_from_true _ (and_from _ _ hx hy)) ∙ cond-false _ _ _ (le-ltb (length told) (length ts) room)

  pub played : (a : Setup I) (opened now left : Memory I) (ts : List Turn) (before after : List Told) → now ≡ opened → left ≡ through a now (steps_of ts) → map told_of (take (length ts) after) ≡ tale a now (steps_of ts) → drop (length ts) after ≡ drop (length ts) before → Played a opened left ts before after
  played a opened now left ts before after is leaves tells later = record { leaves = leaves ∙ ap (λ m. through a m (steps_of ts)) is; tells = tells ∙ ap (λ m. tale a m (steps_of ts)) is; later = later }

  pub promised : (a : Setup I) → Lawful a → (match_number : ℕ) (x y : SlotLists I) (log : List Record) → match_number < 2 ^ 16 → enough_slots x ≡ true → enough_slots y ≡ true → GoesAsPlain a match_number (opened a.opening match_number x y (entries log))
  promised a lawful match_number x y log small hx hy = fresh_plays a lawful match_number x y (entries log) small (enough x hx) (enough y hy) (all_roomy log)

-- a match that was opened with the own slots, put together with the others brought
front_put : (ds : List ℕ) (d : ℕ) → 32 ≤ length ds → set (take 32 ds) 0 d ++ drop 32 ds ≡ set ds 0 d
front_put ds d long =
    let short = length-take 32 ds in
    sym (set-append_left (take 32 ds) (drop 32 ds) 0 d (omega arith)) ∙ ap (λ l. set l 0 d) (take-append-drop 32 ds)

module _ {I : Type 0} (opening : State) (match_number : ℕ) (s : Bool) (x : SlotLists I) (h : enough_slots x ≡ true) where
  slots_again : joined own_lent (slots_of (opened_seat opening match_number s (fronts own_lent x))) x ≡ slots_of (opened_seat opening match_number s x)
  slots_again =
      let own = take-append-drop 32 x.own in
      let others = take-append-drop 32 x.others in
      let digests = front_put x.digests (digest_of opening) (enough x h).digests in
      λ i. record { own = own i; others = others i; digests = digests i }

  seat_again : (v : View I) → v ≡ opened_seat opening match_number s (fronts own_lent x) → with_slots v (joined own_lent (slots_of v) x) ≡ opened_seat opening match_number s x
  seat_again v e = ap (λ w. with_slots w (joined own_lent (slots_of w) x)) e ∙ ap (with_slots (opened_seat opening match_number s x)) slots_again

module _ {G K0 K1 H0 H1 I : Type 0} (kept_0 : K0 → Kept) (kept_1 : K1 → Kept) (opening : State) (match_number : ℕ) (m : Match G K0 K1 H0 H1) (x x' y y' : SlotLists I) (log : List Entry) where
  pub opened_again : enough_slots x ≡ true → enough_slots y ≡ true → whole_memory kept_0 kept_1 m x' y' log ≡ opened opening match_number (fronts own_lent x) (fronts own_lent y) log → whole_memory kept_0 kept_1 m (joined own_lent x' x) (joined own_lent y' y) log ≡ opened opening match_number x y log
  opened_again hx hy e =
      let first = seat_again opening match_number false x hx _ (ap (λ (k : Memory I). k.seat_0) e) in
      let second = seat_again opening match_number true y hy _ (ap (λ (k : Memory I). k.seat_1) e) in
      let sent = ap (λ (k : Memory I). k.sent) e in
      λ i. record { seat_0 = first i; seat_1 = second i; log = log; sent = sent i }

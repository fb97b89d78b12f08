-- A take of a datagram of the other seat leaves a seat that stands.
use Rattle.std.proofs.Common.{◌≡◌, ℕ, zero, suc, ◌+◌, ◌-◌, ◌<◌, ◌≤◌, max, min, Bool, true, false, cond, List, [], ◌∷◌, map, length, take, drop, None, Ok, unwrap_or, sym, refl, ap, ◌∙◌, subst, arith}
use Rattle.std.specs.List.{range_with_len}
use Rattle.std.proofs.lemmas.List.FromFn.{length-map-range_with_len, get_or-map-range_with_len}
use Rattle.std.proofs.lemmas.Bool.Decides.{nat_tests}
use Rattle.interface.specs.Answers.{accepted, accepted_and_parted}
use Rattle.interface.specs.Digest.{digest_of}
use Rattle.interface.specs.Games.{State}
use Rattle.interface.specs.Limits.{most_lead}
use Rattle.datagram.specs.Fields.{Fields, Fits}
use Rattle.datagram.specs.Layout.{bytes_of}
use Rattle.datagram.specs.Reading.{read_of}
use Rattle.datagram.proofs.Readings.{read_back}
use Rattle.plain.specs.Rules.{Rules}
use Rattle.plain.specs.Match.{Side, Plain, Note, other, side, played, known, acknowledged, answered, unless_refused, taken}
use Rattle.plain.specs.States.{true_input, other_input, plain_state, down_from, listed, first_difference, lowest_change}
use Rattle.plain.specs.Laws.{Counts, Welcome, report}
use Rattle.plain.proofs.Growth.{Grown}
use Rattle.plain.proofs.Counting.{acknowledged_at_most_played}
use Rattle.plain.proofs.Listing.{go_back, length_listed}
use Rattle.plain.proofs.Walks.{same_states}
use Rattle.plain.proofs.Confirming.{confirmed_is_true}
use Rattle.plain.proofs.Replaying.{search_skips, known_stays, lowest_to, same_below_lowest, lowest_from_known}
use Rattle.rollback.specs.Inputs.{Inputs, other_at, sent_at}
use Rattle.rollback.specs.Replay.{KeptStates, kept_states}
use Rattle.seat.specs.Views.{View, inputs, rightly_lent}
use Rattle.seat.specs.Calls as calls
use Rattle.refine.specs.Setup.{Setup, rules, setting_of, Lawful}
use Rattle.refine.specs.Standing.{Holds, SeatStands, fields_of}
use Rattle.refine.proofs.Queues.{upto_holds, holds_upto, holds_same, holds_reads, holds_put_all}
use Rattle.refine.proofs.Frames.{other_same, Fed, Midway, all_frames}
use Rattle.refine.proofs.Seats.{own_side, stood, SlotsHold}

-- the search sees the inputs alone
first_same : (f g f' g' : ℕ → ℕ) (k n : ℕ) → ((i : ℕ) → k ≤ i → i < k + n → f i ≡ f' i) → ((i : ℕ) → k ≤ i → i < k + n → g i ≡ g' i) → first_difference f g k n ≡ first_difference f' g' k n
first_same f g f' g' k zero a b = refl
first_same f g f' g' k (suc n) a b = let rest = first_same f g f' g' (k + 1) n in grind (arith, nat_tests, a k, b k)

-- and need not look at what is the same
skips : (f g : ℕ → ℕ) (n k : ℕ) → ((i : ℕ) → i < k → f i ≡ g i) → n - first_difference f g k (n - k) ≡ n - first_difference f g 0 n
skips f g n k same =
    let all : min n k + (n - k) ≡ n = omega arith in
    let skipped = search_skips f g 0 (min n k) (n - k) (λ i _ low. same i (omega arith)) in
    let start : 0 + min n k ≡ min n k = omega arith in
    grind (arith, nat_tests)

all_reads : {I : Type 0} (a : Setup I) → Lawful a → (f : ℕ → I) (ks : List ℕ) → calls.all_read a.reads (map (λ k. a.code (f k)) ks) ≡ true
all_reads a lawful f [] = refl
all_reads a lawful f (k ∷ ks) = let rest = all_reads a lawful f ks in grind (arith, lawful.reads_back (f k))

-- a note, if it is the other seat's
abbrev pub by_other : Bool → Note → Note
by_other s n = record { sender = other s; start = n.start; end = n.end; acknowledgement = n.acknowledgement }

module _ {I : Type 0} (a : Setup I) (lawful : Lawful a) (p : Plain I) (s : Bool) (match_number : ℕ) (own others : List I) (digests : List ℕ) (counts : (t : Bool) → Counts p t) (holds : SlotsHold (rules a) match_number p s own others digests) (n : Note) (welcome : Welcome most_lead p s n) (ended : n.end ≤ played p (other s)) (grown : Grown p (taken p s n)) where
  abbrev r : Rules State I
  r = rules a

  abbrev v : View I
  v = stood r match_number p s own others digests

  abbrev q : Plain I
  q = taken p s n

  abbrev side' : Side I
  side' = record { inputs = (side p s).inputs; known_frames = max (known p s) n.end; acknowledged_frames = max (acknowledged p s) n.acknowledgement }

  abbrev d : Fields
  d = fields_of r match_number p (by_other s n)

  abbrev fresh : Inputs I
  fresh = calls.fresh_inputs (setting_of a s) v d

  same_own : (k : ℕ) → true_input r q s k ≡ true_input r p s k
  same_own k = grind arith

  same_others : (k : ℕ) → true_input r q (other s) k ≡ true_input r p (other s) k
  same_others k = grind arith

  same_played : played q s ≡ played p s
  same_played = grind arith

  same_played_other : played q (other s) ≡ played p (other s)
  same_played_other = grind arith

  known_after : known q s ≡ max (known p s) n.end
  known_after = grind arith

  code_count : length d.codes ≡ n.end - n.start
  code_count = length-map-range_with_len (λ f. a.code (true_input r p (other s) f)) n.start (n.end - n.start)

  ends : n.start + length d.codes ≡ n.end
  ends = omega (arith, code_count, welcome.start_at_most_end)

  fresh_known : fresh.known ≡ known q s
  fresh_known = ap (max (known p s)) ends ∙ sym known_after

  sent_right : (k : ℕ) → n.start ≤ k → k < n.end → sent_at (setting_of a s) d.codes n.start k ≡ true_input r p (other s) k
  sent_right k low high =
      ap (λ c. unwrap_or (a.reads c) a.idle) (get_or-map-range_with_len (λ f. a.code (true_input r p (other s) f)) n.start (n.end - n.start) (k - n.start) k 0 (omega arith) (omega arith))
      ∙ ap (λ o. unwrap_or o a.idle) (lawful.reads_back (true_input r p (other s) k))

  others_fresh : Holds fresh.others fresh.known (true_input r q (other s))
  others_fresh =
      let R = known p s in
      let m = n.start + length d.codes - R in
      let e = ends in
      let c = counts s in
      let w = welcome in
      let whole : R + m ≡ fresh.known = omega arith in
      subst (λ top. Holds fresh.others top (true_input r q (other s))) whole
      (holds_put_all others R m (true_input r p (other s)) (true_input r q (other s)) (omega arith) (λ k _. same_others k) (sent_at (setting_of a s) d.codes n.start)
      (λ k low high. sent_right k (omega arith) (omega arith) ∙ sym (same_others k)) holds.others_hold)

  -- both seats' inputs of a frame near P
  fed : (i : ℕ) → i < played p s → played p s ≤ i + 24 → Fed a q s fresh i
  fed i low near =
      let k = known_after in
      let l = same_played_other in
      let w = welcome in
      let c = counts s in
      let b = acknowledged_at_most_played p counts s in
      record {
        own_input = holds_reads own (played p s) i (true_input r p s) a.idle low (omega arith) holds.own_hold ∙ sym (same_own i);
        others_input = other_same a q s fresh fresh_known (omega arith) others_fresh i (omega arith);
      }

  other_before : (i : ℕ) → known p s ≤ i → other_at (setting_of a s) (inputs v) i ≡ other_input r p s i
  other_before i low = other_same a p s (inputs v) refl (counts s).known_was_played holds.others_hold i (omega arith)

  other_after : (i : ℕ) → known p s ≤ i → other_at (setting_of a s) fresh i ≡ other_input r q s i
  other_after i low =
      let k = known_after in
      let l = same_played_other in
      let w = welcome in
      let c = counts s in
      other_same a q s fresh fresh_known (omega arith) others_fresh i (omega arith)

  -- the frames replayed
  abbrev frames : ℕ
  frames = calls.frames_replayed (setting_of a s) v d

  abbrev lowest : ℕ
  lowest = lowest_change r p q s

  code_in : Plain I → ℕ → ℕ
  code_in m i = a.code (other_input r m s i)

  unchanged : (i : ℕ) → i < known p s → code_in p i ≡ code_in q i
  unfolding code_in
  unchanged i low = ap a.code (sym (known_stays r p q s grown (counts s).known_was_played i low))

  pub frames_same : frames ≡ played p s - lowest
  unfolding code_in
  frames_same =
      let P = played p s in
      let R = known p s in
      let F = λ (i : ℕ). a.code (other_at (setting_of a s) (inputs v) i) in
      let F' = λ (i : ℕ). a.code (other_at (setting_of a s) fresh i) in
      let left = first_same F F' (code_in p) (code_in q) R (P - R) (λ i low _. ap a.code (other_before i low)) (λ i low _. ap a.code (other_after i low)) in
      ap (λ k. P - k) left ∙ skips (code_in p) (code_in q) P R (λ i low. unchanged i low)

  few : frames ≤ 8
  few =
      let same = frames_same in
      let c = counts s in
      let from = lowest_from_known r p q s grown (counts s) in
      grind arith

  abbrev from : ℕ
  from = played p s - frames

  from_lowest : from ≡ lowest
  from_lowest = omega (arith, frames_same, lowest_to r p q s)

  kept_below : (k : ℕ) → k ≤ from → plain_state r q s k ≡ plain_state r p s k
  kept_below k low =
      let e = from_lowest in
      same_states r p q s k (λ i _. same_own i) (λ i high. same_below_lowest r p q s lawful.reads_back i (omega arith))

  abbrev after : KeptStates
  after = calls.replayed_states (setting_of a s) v d

  caught_up : Midway a q s fresh (played p s + 1) (played p s) 9 after
  caught_up =
      let P = played p s in
      let N = frames in
      let small = few in
      let P' : from + N ≡ P = omega (arith, frames_same) in
      let nine : N + (9 - N) ≡ 9 = omega arith in
      let nine' : 9 - N + N ≡ 9 = omega arith in
      let gone : drop N (listed r p s) ≡ take (9 - N) (down_from (plain_state r q s) from) =
      ap (λ n. drop N (take n (down_from (plain_state r p s) P))) (sym nine)
      ∙ ap (λ n. drop N (take (N + (9 - N)) (down_from (plain_state r p s) n))) (sym P')
      ∙ go_back (plain_state r p s) (plain_state r q s) from N (9 - N) kept_below in
      let start : Midway a q s fresh (P + 1) from (9 - N) (kept_states (drop N (listed r p s)) digests) =
      record {
        lists = gone;
        digests_upto = holds_upto digests (P + 1) (P + 1) (from + 1) _ _ (omega arith) (omega arith) (λ k low. ap digest_of (kept_below k (omega arith))) holds.digests_hold;
      } in
      let end = all_frames a q s fresh N (P + 1) from (9 - N) (kept_states (drop N (listed r p s)) digests) (omega arith) (omega arith) (omega arith) (λ i low high. fed i (omega arith) (omega arith)) start in
      subst (λ x. Midway a q s fresh (P + 1) x 9 after) P' (subst (λ x. Midway a q s fresh (P + 1) (from + N) x after) nine' end)

  digests_after : Holds after.digests (played p s + 1) (λ n. digest_of (plain_state r q s n))
  digests_after = upto_holds after.digests (played p s + 1) _ caught_up.digests_upto

  -- the state reported on is the seat's own
  report_agrees : digest_of (plain_state r q s (report n)) ≡ d.digest
  report_agrees = ap digest_of (confirmed_is_true r q s (report n) welcome.report_confirmed_after ∙ grind arith)

  same_report : calls.report_differs (setting_of a s) v d after.digests ≡ false
  same_report =
      let w = welcome in
      let there = digests_after.values (report n) in
      grind (arith, nat_tests, report_agrees)

  pub take_stands : SeatStands r match_number q s (calls.taken (setting_of a s) v d)
  unfolding calls.taken
  take_stands =
      record {
        its_seat = refl;
        its_number = refl;
        its_played = sym same_played;
        its_known = fresh_known;
        its_acknowledged = sym (ap (λ (e : Side I). e.acknowledged_frames) (own_side p s side'));
        not_parted = same_report;
        its_states = caught_up.lists ∙ ap (λ m. take 9 (down_from (plain_state r q s) m)) (sym same_played);
        own_held = holds_same own (played p s) _ _ (λ k _. same_own k) holds.own_hold;
        others_held = others_fresh;
        digests_held = digests_after;
      }

  -- no check refuses it
  ours : calls.not_ours (setting_of a s) v d ≡ false
  ours = grind (arith, nat_tests)

  pub fields_pass : calls.fields_check (setting_of a s) v d ≡ None
  fields_pass =
      let w = welcome in
      let e = ends in
      let k = known_after in
      grind (arith, nat_tests, all_reads a lawful (true_input r p (other s)) (range_with_len n.start (n.end - n.start)))

  reaches : calls.reach_check (setting_of a s) v d ≡ None
  reaches =
      let long = length_listed r p s in
      let small = few in
      let same = frames_same in
      grind (arith, nat_tests)

  module _ (whole : rightly_lent v ≡ true) (fits : Fits d) (bytes : List ℕ) (is : bytes ≡ bytes_of d) where
    read : read_of bytes ≡ Ok d
    read = ap read_of is ∙ read_back d fits

    pub take_passes : calls.take_refusal (setting_of a s) v bytes ≡ None
    take_passes = grind (arith, read, fields_pass, reaches)

    pub take_leaves_is : calls.take_leaves (setting_of a s) v bytes ≡ calls.taken (setting_of a s) v d
    take_leaves_is = grind (arith, take_passes, read)

    pub take_answers : calls.take_answer (setting_of a s) v bytes ≡ (accepted, played p s - lowest)
    take_answers =
        ap (λ o. unless_refused o (answered o, 0) (cond (calls.take_leaves (setting_of a s) v bytes).parted accepted_and_parted accepted, calls.read_replayed (setting_of a s) v (read_of bytes))) take_passes
        ∙ ap (λ (b : Bool). (cond b accepted_and_parted accepted, calls.read_replayed (setting_of a s) v (read_of bytes))) (ap (λ (w : View I). w.parted) take_leaves_is ∙ take_stands.not_parted)
        ∙ ap (λ (o : ℕ). (accepted, o)) (ap (calls.read_replayed (setting_of a s) v) read ∙ frames_same)

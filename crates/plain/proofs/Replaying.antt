-- The frames that a turn replays.
use Rattle.std.proofs.Common.{◌≡◌, ℕ, zero, suc, ◌+◌, ◌-◌, ◌<◌, ◌≤◌, Bool, List, sym, refl, ap, ◌∙◌, subst, arith}
use Rattle.std.proofs.lemmas.Bool.Decides.{nat_tests}
use Rattle.interface.specs.Limits.{most_lead}
use Rattle.plain.specs.Rules.{Rules, ReadsBack}
use Rattle.plain.specs.Match.{Plain, Turn, Press, Send, Take, other, played, known, acting, turn, input_of, after, run}
use Rattle.plain.specs.States.{other_input, first_difference, lowest_change, replayed}
use Rattle.plain.specs.Laws.{Counts, SameUpTo, StateLaws, ReplayLaws, Replays}
use Rattle.plain.proofs.Steps.{step}
use Rattle.plain.proofs.Growth.{Grown, step_grows}
use Rattle.plain.proofs.Counting.{sound}
use Rattle.plain.proofs.Walks.{known_input, same_states}
use Rattle.plain.proofs.Changes.{either_way, refused_stays, press_hears_nothing, send_hears_nothing, others_keep, press_keeps, press_adds, send_keeps}

module _ (f g : ℕ → ℕ) where
  pub first_from : (k n : ℕ) → k ≤ first_difference f g k n
  first_from k zero = omega arith
  first_from k (suc n) = let rest = first_from (k + 1) n in grind (arith, nat_tests)

  pub first_to : (k n : ℕ) → first_difference f g k n ≤ k + n
  first_to k zero = omega arith
  first_to k (suc n) = let rest = first_to (k + 1) n in grind (arith, nat_tests)

  -- below it they are the same
  pub same_below_first : (k n i : ℕ) → k ≤ i → i < first_difference f g k n → f i ≡ g i
  same_below_first k zero i a b = absurd (omega arith)
  same_below_first k (suc n) i a b = let rest = same_below_first (k + 1) n i in grind (arith, nat_tests)

  -- and at it they differ, if it is one of the frames
  pub differ_at_first : (k n : ℕ) → first_difference f g k n < k + n → f (first_difference f g k n) ≡ g (first_difference f g k n) → ⊥
  differ_at_first k zero a = absurd (omega arith)
  differ_at_first k (suc n) a = let rest = differ_at_first (k + 1) n in grind (arith, nat_tests)

  -- it is the end where nothing differs
  pub no_difference : (n : ℕ) → ((i : ℕ) → f i ≡ g i) → first_difference f g 0 n ≡ n
  no_difference n same = let at = differ_at_first 0 n in let top = first_to 0 n in grind (arith, same (first_difference f g 0 n))

  -- frames known to be the same need not be searched
  pub search_skips : (k m n : ℕ) → ((i : ℕ) → k ≤ i → i < k + m → f i ≡ g i) → first_difference f g k (m + n) ≡ first_difference f g (k + m) n
  search_skips k zero n same = grind arith
  search_skips k (suc m) n same =
      let a : suc m + n ≡ suc (m + n) = omega arith in
      let b : k + 1 + m ≡ k + suc m = omega arith in
      let here = same k (omega arith) (omega arith) in
      let step : first_difference f g k (suc (m + n)) ≡ first_difference f g (k + 1) (m + n) = grind (arith, nat_tests) in
      let rest = search_skips (k + 1) m n (λ i from to. same i (omega arith) (omega arith)) in
      cc

module _ {S I : Type 0} (r : Rules S I) where
  -- two inputs with one code are one
  pub same_code : ReadsBack r → (x y : I) → r.code x ≡ r.code y → x ≡ y
  same_code back x y e =
      let a = back x in let b = back y in cc

  pub nothing_changes : (p q : Plain I) (s : Bool) → ((f : ℕ) → other_input r q s f ≡ other_input r p s f) → played p s - lowest_change r p q s ≡ 0
  nothing_changes p q s same =
      let none = no_difference (λ f. r.code (other_input r p s f)) (λ f. r.code (other_input r q s f)) (played p s) (λ i. ap r.code (sym (same i))) in
      omega arith

  -- a known input stays
  pub known_stays : (p q : Plain I) (s : Bool) → Grown p q → known p s ≤ played p (other s) → (f : ℕ) → f < known p s → other_input r q s f ≡ other_input r p s f
  known_stays p q s g h f i =
      let later = g.sides s in
      let still : f < known q s = omega arith in
      known_input r q s f still ∙ (g.sides (other s)).same_inputs f r.idle (omega arith) ∙ sym (known_input r p s f i)

  -- of the lowest frame below P for which a seat has another input in q than in p
  module _ (p q : Plain I) (s : Bool) where
    code_in : Plain I → ℕ → ℕ
    code_in m i = r.code (other_input r m s i)

    pub lowest_to : lowest_change r p q s ≤ played p s
    unfolding code_in
    lowest_to = let top = first_to (code_in p) (code_in q) 0 (played p s) in omega arith

    pub same_below_lowest : ReadsBack r → (f : ℕ) → f < lowest_change r p q s → other_input r q s f ≡ other_input r p s f
    unfolding code_in
    same_below_lowest back f h = sym (same_code back _ _ (same_below_first (code_in p) (code_in q) 0 (played p s) f (omega arith) h))

    pub differ_at_lowest : lowest_change r p q s < played p s → other_input r q s (lowest_change r p q s) ≡ other_input r p s (lowest_change r p q s) → ⊥
    unfolding code_in
    differ_at_lowest less same = differ_at_first (code_in p) (code_in q) 0 (played p s) (omega arith) (ap r.code (sym same))

    -- where q is later, it is not below the known frames
    pub lowest_from_known : Grown p q → Counts p s → lowest_change r p q s < played p s → known p s ≤ lowest_change r p q s
    lowest_from_known g c less =
        let stays = known_stays p q s g c.known_was_played (lowest_change r p q s) in let differ = differ_at_lowest less in grind arith

    few_replayed : Grown p q → Counts p s → played p s - lowest_change r p q s ≤ most_lead
    few_replayed g c =
        let from = lowest_from_known g c in grind arith

    first_replayed : played p s - (played p s - lowest_change r p q s) ≡ lowest_change r p q s
    first_replayed = let top = lowest_to in omega arith

    replay_starts : 0 < played p s - lowest_change r p q s → let f = played p s - (played p s - lowest_change r p q s) in other_input r q s f ≡ other_input r p s f → ⊥
    replay_starts some same = differ_at_lowest (omega arith) (subst (λ i. other_input r q s i ≡ other_input r p s i) first_replayed same)

    replay_spares : ReadsBack r → (f : ℕ) → f < played p s - (played p s - lowest_change r p q s) → other_input r q s f ≡ other_input r p s f
    replay_spares back f h = let e = first_replayed in same_below_lowest back f (omega arith)

  pub replay_laws : (most : ℕ) → most_lead ≤ most → (ts : List Turn) (t : Turn) → ReplayLaws r (run r ts) t most
  replay_laws most b ts t =
      let p = run r ts in
      let q = after r p t in
      let s = acting t in
      record {
        few = let few = few_replayed p q s (step_grows r (step r p t)) ((sound r ts).counts s) in omega arith;
        within = omega arith;
        starts_at_a_change = replay_starts p q s;
        no_change_below = replay_spares p q s;
      }

  pub replays : (most : ℕ) → most_lead ≤ most → (ts : List Turn) → Replays r (run r ts) most
  replays most b ts =
      let p = run r ts in
      record {
        of_a_turn = replay_laws most b ts;
        refused_replays_nothing = λ t e. nothing_changes p (after r p t) (acting t) (λ i. ap (λ q. other_input r q (acting t) i) (refused_stays r p t e));
        press_replays_nothing = λ n l code.
            let t = turn n l (Press code) in
            nothing_changes p (after r p t) (acting t) (λ i. either_way r (λ q. other_input r q (acting t) i ≡ other_input r p (acting t) i) p t refl (press_hears_nothing r p (acting t) (input_of r code) i));
        send_replays_nothing = λ n l records.
            let t = turn n l (Send records) in
            nothing_changes p (after r p t) (acting t) (λ i. either_way r (λ q. other_input r q (acting t) i ≡ other_input r p (acting t) i) p t refl (send_hears_nothing r p (acting t) (acting t) i));
      }

  -- a turn changes no state up to its lowest changed frame
  pub replay_keeps : ReadsBack r → (ts : List Turn) (t : Turn) → SameUpTo r (acting t) (played (run r ts) (acting t) - replayed r (run r ts) t) (run r ts) (after r (run r ts) t)
  replay_keeps back ts t n h =
      let p = run r ts in
      let q = after r p t in
      let s = acting t in
      let laws = replay_laws most_lead (omega arith) ts t in
      same_states r p q s n (λ k i. ((step_grows r (step r p t)).sides s).same_inputs k r.idle (omega arith)) (λ k i. laws.no_change_below back k (omega arith))

  pub states_hold : (ts : List Turn) → StateLaws r (run r ts)
  states_hold ts =
      let p = run r ts in
      record {
        refused_keeps_all = refused_stays r p;
        others_keep = λ t n. others_keep r p t (sound r ts).counts n;
        press_keeps = press_keeps r p;
        press_adds = press_adds r p;
        send_keeps = send_keeps r p;
        take_keeps = λ back n l k records. replay_keeps back ts (turn n l (Take k records));
      }

-- The inputs and states of a seat that stands are those of the plain match.
use Rattle.std.proofs.Common.{◌≡◌, ℕ, zero, suc, ◌+◌, ◌-◌, ◌<◌, ◌≤◌, Bool, List, ◌∷◌, take, None, unwrap_or, sym, ap, ◌∙◌, subst, arith}
use Rattle.std.proofs.lemmas.Bool.Decides.{nat_tests}
use Rattle.interface.specs.Digest.{digest_of}
use Rattle.interface.specs.Games.{State}
use Rattle.interface.specs.Keepers.{newest}
use Rattle.frames.specs.Queue.{held}
use Rattle.plain.specs.Rules.{last_or}
use Rattle.plain.specs.Match.{Plain, other, side, played, known}
use Rattle.plain.specs.States.{true_input, other_input, plain_state, stepped, down_from, known_inputs}
use Rattle.plain.proofs.Guessing.{last_known}
use Rattle.plain.proofs.Listing.{step_ahead}
use Rattle.plain.proofs.Walks.{next_frame}
use Rattle.rollback.specs.Inputs.{Inputs, input_at, other_at, pair_at, in_order}
use Rattle.rollback.specs.Replay.{KeptStates, stepped_at, frame_at, frames_from}
use Rattle.refine.specs.Setup.{Setup, rules, setting_of}
use Rattle.refine.specs.Standing.{Holds}
use Rattle.refine.proofs.Queues.{Upto, upto_put, holds_reads}

none_held : {T : Type 0} (slots : List T) → held slots 0 (0 - 1) ≡ None
none_held slots = grind (arith, nat_tests)

pub newest_down : (f : ℕ → State) (n m : ℕ) → 0 < m → newest (take m (down_from f n)) ≡ f n
newest_down f n m h = grind arith

module _ {I : Type 0} (a : Setup I) (p : Plain I) (s : Bool) where
  -- the last known input
  -- by hand, as grind stops at its limit here
  last_input : (others : List I) → known p s ≤ played p (other s) → Holds others (known p s) (true_input (rules a) p (other s)) → input_at (setting_of a s) others (known p s) (known p s - 1) ≡ last_or a.idle (known_inputs p s)
  last_input others few h = at (known p s) few h
    where
      at : (n : ℕ) → n ≤ played p (other s) → Holds others n (true_input (rules a) p (other s)) → input_at (setting_of a s) others n (n - 1) ≡ last_or a.idle (take n (side p (other s)).inputs)
      at zero _ _ = ap (λ o. unwrap_or o a.idle) (none_held others)
      at (suc n) few h =
          holds_reads others (suc n) (suc n - 1) (true_input (rules a) p (other s)) a.idle (omega arith) (omega arith) h
          ∙ sym (last_known a.idle (side p (other s)).inputs (suc n) (omega arith) few)

  -- the other seat's input for a frame
  pub other_same : (q : Inputs I) → q.known ≡ known p s → known p s ≤ played p (other s) → Holds q.others q.known (true_input (rules a) p (other s)) → (f : ℕ) → known p s ≤ f + 32 → other_at (setting_of a s) q f ≡ other_input (rules a) p s f
  other_same q e few h f near = subst (λ n. other_at (setting_of a s) (record { own = q.own; played = q.played; others = q.others; known = n }) f ≡ other_input (rules a) p s f) (sym e) at
    where
      h' : Holds q.others (known p s) (true_input (rules a) p (other s))
      h' = subst (λ n. Holds q.others n (true_input (rules a) p (other s))) e h

      at : other_at (setting_of a s) (record { own = q.own; played = q.played; others = q.others; known = known p s }) f ≡ other_input (rules a) p s f
      at =
          let known_one = holds_reads q.others (known p s) f (true_input (rules a) p (other s)) a.idle in
          grind (arith, nat_tests, last_input q.others few h')

-- a frame in the order of the seats
pub ordered : {I : Type 0} (a : Setup I) (s : Bool) (x : State) (own others : I) → let o = in_order s (own, others) in a.next x o.0 o.1 ≡ stepped (rules a) s x own others
ordered a s x own others = grind arith

-- Stepping through frames: q has the inputs of frames j to j + n − 1 as the plain match has them.
pub record Fed {I : Type 0} (a : Setup I) (p : Plain I) (s : Bool) (q : Inputs I) (j : ℕ) : Type 0 where
  pub own_input : input_at (setting_of a s) q.own q.played j ≡ true_input (rules a) p s j
  pub others_input : other_at (setting_of a s) q j ≡ other_input (rules a) p s j

module _ {I : Type 0} (a : Setup I) (p : Plain I) (s : Bool) (q : Inputs I) where
  -- the next state
  pub next_same : (j m : ℕ) → 0 < m → Fed a p s q j → let ss = take m (down_from (plain_state (rules a) p s) j) in let o = in_order s (pair_at (setting_of a s) q j) in a.next (newest ss) o.0 o.1 ≡ plain_state (rules a) p s (suc j)
  next_same j m some fed =
      let r = rules a in
      let g = setting_of a s in
      let ss = take m (down_from (plain_state r p s) j) in
      ordered a s (newest ss) (input_at g q.own q.played j) (other_at g q j)
      ∙ ap (λ x. stepped r s x (input_at g q.own q.played j) (other_at g q j)) (newest_down (plain_state r p s) j m some)
      ∙ ap (λ x. stepped r s (plain_state r p s j) x (other_at g q j)) fed.own_input
      ∙ ap (λ x. stepped r s (plain_state r p s j) (true_input r p s j) x) fed.others_input
      ∙ sym (next_frame r p s j)

  -- what is listed, and the digests, in the middle of a replay
  pub record Midway (top j m : ℕ) (k : KeptStates) : Type 0 where
    pub lists : k.states ≡ take m (down_from (plain_state (rules a) p s) j)
    pub digests_upto : Upto k.digests top (j + 1) (λ n. digest_of (plain_state (rules a) p s n))

  -- one frame, where m states are listed before it and m' after it
  pub one_frame : (top j m m' : ℕ) (k : KeptStates) → 0 < m → 0 < m' → let G = plain_state (rules a) p s in take 9 (G (suc j) ∷ take m (down_from G j)) ≡ take m' (down_from G (suc j)) → j + 1 < top → Fed a p s q j → Midway top j m k → Midway top (j + 1) m' (frame_at (setting_of a s) s q j k)
  unfolding frame_at
  one_frame top j m m' k some some' front within fed mid =
      let r = rules a in
      let G = plain_state r p s in
      let g = setting_of a s in
      let step = next_same j m some fed in
      let e : j + 1 ≡ suc j = omega arith in
      let states : stepped_at g s q j k.states ≡ take m' (down_from G (j + 1)) =
      ap (λ ss. stepped_at g s q j ss) mid.lists
      ∙ ap (λ x. take 9 (x ∷ take m (down_from G j))) step
      ∙ front
      ∙ ap (λ n. take m' (down_from G n)) (sym e) in
      let new : digest_of (newest (stepped_at g s q j k.states)) ≡ digest_of (G (j + 1)) = ap digest_of (ap newest states ∙ newest_down G (j + 1) m' some') in
      record {
        lists = states;
        digests_upto = upto_put k.digests top (j + 1) (λ n. digest_of (G n)) _ within new mid.digests_upto;
      }

  pub all_frames : (n top j m : ℕ) (k : KeptStates) → 0 < m → m + n ≤ 9 → j + n < top → ((i : ℕ) → j ≤ i → i < j + n → Fed a p s q i) → Midway top j m k → Midway top (j + n) (m + n) (frames_from (setting_of a s) s q j n k)
  unfolding frames_from
  all_frames zero top j m k some few within fed mid =
      let e : j ≡ j + 0 = omega arith in
      let e' : m ≡ m + 0 = omega arith in
      subst (λ x. Midway top (j + 0) x k) e' (subst (λ x. Midway top x m k) e mid)
  all_frames (suc n) top j m k some few within fed mid =
      let e : j + 1 + n ≡ j + suc n = omega arith in
      let e' : suc m + n ≡ m + suc n = omega arith in
      let step = one_frame top j m (suc m) k some (omega arith) (step_ahead (plain_state (rules a) p s) j m (omega arith)) (omega arith) (fed j (omega arith) (omega arith)) mid in
      let rest = all_frames n top (j + 1) (suc m) (frame_at (setting_of a s) s q j k) (omega arith) (omega arith) (omega arith) (λ i low high. fed i (omega arith) (omega arith)) step in
      subst (λ x. Midway top (j + suc n) x (frames_from (setting_of a s) s q j (suc n) k)) e' (subst (λ x. Midway top x (suc m + n) (frames_from (setting_of a s) s q j (suc n) k)) e rest)

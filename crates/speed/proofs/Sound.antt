-- What lawfulness says, fact by fact.
use Rattle.std.proofs.Common.{◌≡◌, ℕ, zero, suc, ◌+◌, ◌*◌, ◌<◌, ◌≤◌, Bool, true, false, ◌&&◌, eqb, leb, List, [], ◌∷◌, length, take, drop, set, replicate, refl, ap, ◌∙◌, ⊎_elim, arith}
use Rattle.std.specs.List.{list_all, zip}
use Rattle.std.proofs.lemmas.List.{get_or_append_left, get_or-replicate, get_or-drop, length-drop, length-take, get_or-take, get_or-set_same, get_or-set_other}
use Rattle.std.proofs.lemmas.Bool.{and_parts, and_from, eqb-true, eq-eqb, leb-true, le-leb, cases_eq, cases_Bool, both_ways}
use Rattle.interface.specs.Games.{State}
use Rattle.speed.specs.Places.{slot_at, at, draws, sides, parity}
use Rattle.speed.specs.Lawful.{times, each_below, in_play, limits, within, permutation, none_twice, lawful_state}
use Rattle.speed.specs.declared.game.Speed.{Speed}
use Rattle.speed.proofs.Packs.{pack_below}

-- each word from 52 on is within its limit
abbrev pub Ranged : State → Type 0
Ranged w = (k : ℕ) → k < 16 → at w (52 + k) ≤ at limits k

pub record Sound (w : State) : Type 0 where
  pub wide : length w ≡ 68
  pub pack : (card : ℕ) → card < 52 → times card (take 52 w) ≡ 1
  pub ranged : Ranged w
  pub apart : (card : ℕ) → card < 52 → times card (in_play w) ≤ 1

-- a test for each card below n
pub each_below_passes : (n : ℕ) (test : ℕ → Bool) → each_below n test ≡ true → (card : ℕ) → card < n → test card ≡ true
unfolding each_below
each_below_passes zero test yes_all card h = absurd (omega arith)
each_below_passes (suc n) test yes_all card h =
    let both = and_parts (test n) (each_below n test) yes_all in
    ⊎_elim (λ e. ap test e ∙ both.0) (λ apart. each_below_passes n test both.1 card (omega arith)) (cases_eq card n)

pub each_below_from : (n : ℕ) (test : ℕ → Bool) → ((card : ℕ) → card < n → test card ≡ true) → each_below n test ≡ true
unfolding each_below
each_below_from zero test passes = refl
each_below_from (suc n) test passes =
    and_from (test n) (each_below n test) (passes n (omega arith)) (each_below_from n test (λ card h. passes card (omega arith)))

pub each_below_fails : (n : ℕ) (test : ℕ → Bool) (card : ℕ) → card < n → test card ≡ false → each_below n test ≡ false
each_below_fails n test card h fails =
    ⊎_elim (λ passes. absurd (both_ways (test card) fails (each_below_passes n test passes card h))) (λ e. e) (cases_Bool (each_below n test))

-- words within limits
within_passes : (ls ws : List ℕ) → within ls ws ≡ true → (k : ℕ) → k < length ls → at ws k ≤ at ls k
within_passes [] ws yes_all k h = absurd (omega arith)
within_passes (l ∷ ls) [] yes_all k h = omega arith
within_passes (l ∷ ls) (w ∷ ws) yes_all zero h = leb-true w l (and_parts (leb w l) (within ls ws) yes_all).0
within_passes (l ∷ ls) (w ∷ ws) yes_all (suc k) h =
    within_passes ls ws (and_parts (leb w l) (within ls ws) yes_all).1 k (omega arith)

within_from : (ls ws : List ℕ) → length ls ≤ length ws → ((k : ℕ) → k < length ls → at ws k ≤ at ls k) → within ls ws ≡ true
within_from [] ws long passes = refl
within_from (l ∷ ls) [] long passes = absurd (omega arith)
within_from (l ∷ ls) (w ∷ ws) long passes =
    and_from (leb w l) (within ls ws) (le-leb w l (passes 0 (omega arith))) (within_from ls ws (omega arith) (λ k h. passes (suc k) (omega arith)))

-- the test, word by word and limit by limit
pub within_pairs : (ls ws : List ℕ) → length ls ≤ length ws → within ls ws ≡ list_all (λ p. leb p.0 p.1) (zip ws ls)
within_pairs [] [] long = refl
within_pairs [] (w ∷ ws) long = refl
within_pairs (l ∷ ls) [] long = absurd (omega arith)
within_pairs (l ∷ ls) (w ∷ ws) long = ap (λ b. leb w l && b) (within_pairs ls ws (omega arith))

pub sixteen : length limits ≡ 16
unfolding limits
sixteen = refl

pub sound : (w : State) → length w ≡ 68 → lawful_state w ≡ true → Sound w
unfolding lawful_state
sound w wide yes_lawful =
    let outer = and_parts (permutation (take 52 w)) (within limits (drop 52 w) && none_twice (in_play w)) yes_lawful in
    let inner = and_parts (within limits (drop 52 w)) (none_twice (in_play w)) outer.1 in
    record {
      wide = wide;
      pack = λ card h. eqb-true _ _ (each_below_passes 52 (λ card. eqb (times card (take 52 w)) 1) outer.0 card h);
      ranged = λ k h. rw get_or-drop at (within_passes limits (drop 52 w) inner.0 k (omega (arith, sixteen)));
      apart = λ card h. leb-true _ _ (each_below_passes 52 (λ card. leb (times card (in_play w)) 1) inner.1 card h);
    }

-- what the type of a game keeps
pub sound_of : (g : Speed) → Sound g.words
sound_of g = sound g.words g.wide g.lawful

pub lawful_from : (w : State) → Sound w → lawful_state w ≡ true
unfolding lawful_state
lawful_from w s =
    and_from _ _ (each_below_from 52 _ (λ card h. eq-eqb _ _ (s.pack card h)))
    (and_from _ _
    (within_from limits (drop 52 w) (omega (arith, sixteen, length-drop 52 w, s.wide)) (λ k h. rw get_or-drop (s.ranged k (omega (arith, sixteen)))))
    (each_below_from 52 _ (λ card h. le-leb _ _ (s.apart card h))))

-- the limits by name
pub limit_slot : (k : ℕ) → k < 10 → at limits k ≡ 52
unfolding limits
limit_slot k h = get_or_append_left (replicate 10 52) (15 ∷ 15 ∷ 5 ∷ 51 ∷ 51 ∷ 1 ∷ []) 0 k (omega arith) ∙ get_or-replicate 10 k 52 0 h

pub limit_draws : (seat : ℕ) → seat < 2 → at limits (10 + seat) ≡ 15
unfolding limits
limit_draws zero h = refl
limit_draws (suc zero) h = refl
limit_draws (suc (suc n)) h = absurd (omega arith)

pub limit_top : (pile : ℕ) → pile < 2 → at limits (13 + pile) ≡ 51
unfolding limits
limit_top zero h = refl
limit_top (suc zero) h = refl
limit_top (suc (suc n)) h = absurd (omega arith)

pub limit_sides : at limits 12 ≡ 5
unfolding limits
limit_sides = refl

pub limit_parity : at limits 15 ≡ 1
unfolding limits
limit_parity = refl

-- what lawfulness says of the words by name
module _ (w : State) (s : Sound w) where
  pub draws_le : (seat : ℕ) → seat < 2 → draws w seat ≤ 15
  draws_le seat h = let e : 52 + (10 + seat) ≡ 62 + seat = omega arith in omega (arith, rw e at (s.ranged (10 + seat) (omega arith)), limit_draws seat h)

  pub held_le : (seat slot : ℕ) → seat < 2 → slot < 5 → at w (slot_at seat slot) ≤ 52
  held_le seat slot h g =
      let k : ℕ = 5 * seat + slot in
      let e : 52 + k ≡ slot_at seat slot = omega arith in
      omega (arith, rw e at (s.ranged k (omega arith)), limit_slot k (omega arith))

  pub top_lt : (pile : ℕ) → pile < 2 → at w (65 + pile) < 52
  top_lt pile h = let e : 52 + (13 + pile) ≡ 65 + pile = omega arith in omega (arith, rw e at (s.ranged (13 + pile) (omega arith)), limit_top pile h)

  pub sides_le : sides w ≤ 5
  sides_le = omega (arith, s.ranged 12 (omega arith), limit_sides)

  pub parity_le : parity w ≤ 1
  parity_le = omega (arith, s.ranged 15 (omega arith), limit_parity)

  -- the order has cards only
  pub card_lt : (k : ℕ) → k < 52 → at w k < 52
  card_lt k h =
      let wide : length (take 52 w) ≡ 52 = omega (arith, length-take 52 w, s.wide) in
      rw (get_or-take 52 w k 0 h) at (pack_below (take 52 w) k wide s.pack h)

-- a write within its limit
pub ranged_set : (w : State) (place k v : ℕ) → place ≡ 52 + k → length w ≡ 68 → k < 16 → v ≤ at limits k → Ranged w → Ranged (set w place v)
ranged_set w place k v is wide h fits ranged j j_lt =
    ⊎_elim
    (λ e. let there : at (set w place v) (52 + j) ≡ v = ap (at (set w place v)) (omega arith) ∙ get_or-set_same w place v 0 (omega arith) in omega (arith, ap (at limits) e))
    (λ apart. let there : at (set w place v) (52 + j) ≡ at w (52 + j) = get_or-set_other w place (52 + j) v 0 (omega arith) in omega (arith, ranged j j_lt))
    (cases_eq j k)

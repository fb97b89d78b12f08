-- The shuffle gives a permutation, and the deal a lawful state.
use Rattle.std.proofs.Common.{◌≡◌, ℕ, zero, suc, ◌+◌, ◌-◌, ◌*◌, ◌/◌, ◌%◌, ◌^◌, ◌<◌, ◌≤◌, true, List, [], ◌∷◌, ◌++◌, length, take, drop, replicate, sym, refl, ap, ◌∙◌, ⊎_elim, arith}
use borrow.Rule.Slice.PartMut.{put_mid, same_len_mid}
use Rattle.std.specs.List.{range_with_len, between, swap}
use Rattle.std.proofs.lemmas.Nat.{mod_below}
use Rattle.std.proofs.lemmas.List.FromFn.{length-range_with_len}
use Rattle.std.proofs.lemmas.List.Edits.{length-swap, length-between, get_or-between}
use Rattle.std.proofs.lemmas.List.{length-append, append_assoc, append-nil, take-append-le, take_at, take_all, take-take, drop_at, drop-take, drop-drop, get_or_append_left, get_or-append_right}
use Rattle.std.proofs.lemmas.Slice.{between_is}
use Rattle.std.proofs.lemmas.List.Sorted.{sum_by-IsPermutation, IsPermutation-swap}
use Rattle.std.proofs.lemmas.Bool.{cases_eq, cases_lt, cond-true, eq-eqb}
use Rattle.interface.specs.Games.{State}
use Rattle.speed.specs.Places.{at, sides}
use Rattle.speed.specs.Lawful.{times, in_play, undrawn, permutation, limits}
use Rattle.speed.specs.Opening.{stirred, picked, shuffled_from, new_pack, order_of, dealt, opening_state}
use Rattle.speed.proofs.Counts.{is_card, is_other, times-∷, times_none, times_split, times_step, in_play_sum}
use Rattle.speed.proofs.Packs.{pack_below}
use Rattle.speed.proofs.Sound.{Sound, Ranged, each_below_from, limit_slot}

-- each card stands in the new pack once
before_counting : (n a card : ℕ) → card < a → times card (range_with_len a n) ≡ 0
before_counting zero a card h = times_none card
before_counting (suc n) a card h =
    omega (arith, times-∷ card a (range_with_len (a + 1) n), is_other card a (omega arith), before_counting n (a + 1) card (omega arith))

in_counting : (n a card : ℕ) → a ≤ card → card < a + n → times card (range_with_len a n) ≡ 1
in_counting zero a card low high = absurd (omega arith)
in_counting (suc n) a card low high =
    let more = times-∷ card a (range_with_len (a + 1) n) in
    ⊎_elim
    (λ e.
    let here : is_card card a ≡ 1 = cond-true _ _ _ (eq-eqb a card e) in
    omega (arith, before_counting n (a + 1) card (omega arith)))
    (λ apart. omega (arith, is_other card a apart, in_counting n (a + 1) card (omega arith) (omega arith)))
    (cases_eq a card)

-- an exchange keeps the cards
exchange_keeps : (order : List ℕ) (i j card : ℕ) → i < length order → j < length order → times card (swap order i j) ≡ times card order
unfolding times
exchange_keeps order i j card h g = sum_by-IsPermutation (is_card card) order (swap order i j) (IsPermutation-swap order (swap order i j) i j h g refl)

shuffle_long : (i z : ℕ) (order : List ℕ) → length (shuffled_from i z order) ≡ length order
unfolding shuffled_from
shuffle_long zero z order = refl
shuffle_long (suc i) z order = shuffle_long i (stirred z) _ ∙ length-swap order (suc i) (picked (stirred z) (suc i))

shuffle_keeps : (i z : ℕ) (order : List ℕ) (card : ℕ) → i < length order → times card (shuffled_from i z order) ≡ times card order
unfolding shuffled_from
shuffle_keeps zero z order card h = refl
shuffle_keeps (suc i) z order card h =
    let j : ℕ = picked (stirred z) (suc i) in
    let j_lt : j < suc i + 1 = mod_below (stirred z / 65536) (suc i + 1) (omega arith) in
    shuffle_keeps i (stirred z) (swap order (suc i) j) card (omega (arith, length-swap order (suc i) j))
    ∙ exchange_keeps order (suc i) j card h (omega arith)

pub order_long : (seed : ℕ) → length (order_of seed) ≡ 52
unfolding order_of new_pack
order_long seed = shuffle_long 51 seed _ ∙ length-range_with_len 0 52

pub order_once : (seed card : ℕ) → card < 52 → times card (order_of seed) ≡ 1
unfolding order_of new_pack
order_once seed card h =
    shuffle_keeps 51 seed (range_with_len 0 52) card (omega (arith, length-range_with_len 0 52)) ∙ in_counting 52 0 card (omega arith) (omega arith)

pub order_permutation : (seed : ℕ) → permutation (order_of seed) ≡ true
order_permutation seed = each_below_from 52 _ (λ card h. eq-eqb _ _ (order_once seed card h))

pub pack_long : length new_pack ≡ 52
unfolding new_pack
pack_long = length-range_with_len 0 52

pub shuffle_done : (i z : ℕ) (order : List ℕ) → i ≡ 0 → order ≡ shuffled_from i z order
unfolding shuffled_from
shuffle_done i z order e = sym (ap (λ n. shuffled_from n z order) e)

-- one turn of the shuffle's loop, with the code's arithmetic
pub shuffle_step : (i z : ℕ) (order : List ℕ) → 1 < i → shuffled_from (i - 1) z order ≡ shuffled_from (i - 1 - 1) ((z * 1664525 % 2 ^ 32 + 1013904223) % 2 ^ 32) (swap order (i - 1) ((z * 1664525 % 2 ^ 32 + 1013904223) % 2 ^ 32 / 65536 % (i - 1 + 1)))
unfolding shuffled_from
shuffle_step i z order h =
    let j : ℕ = i - 1 - 1 in
    let e : i - 1 ≡ suc j = omega arith in
    let stirs : stirred z ≡ (z * 1664525 % 2 ^ 32 + 1013904223) % 2 ^ 32 = omega arith in
    ap (λ n. shuffled_from n z order) e
    ∙ (ap (λ n. shuffled_from j (stirred z) (swap order n (stirred z / 65536 % (n + 1)))) (sym e)
    ∙ ap (λ y. shuffled_from j y (swap order (i - 1) (y / 65536 % (i - 1 + 1)))) stirs)

-- the deal, with the code's writes
pub put_wide : (copy hands : List ℕ) → length copy ≡ 52 → length hands ≡ length (take 10 (drop 52 (copy ++ replicate 16 0))) → length (put_mid 52 10 (copy ++ replicate 16 0) hands) ≡ 68
put_wide copy hands long short = same_len_mid 52 10 (copy ++ replicate 16 0) hands short ∙ omega (arith, length-append copy (replicate 16 0))

-- the code's writes, one behind the other
dealt_parts : (order hands counts : List ℕ) → length order ≡ 52 → length hands ≡ 10 → length counts ≡ 6 → put_mid 62 6 (put_mid 52 10 (order ++ replicate 16 0) hands) counts ≡ order ++ (hands ++ counts)
dealt_parts order hands counts long short few =
    let first : put_mid 52 10 (order ++ replicate 16 0) hands ≡ order ++ (hands ++ replicate 6 0) =
    ap (λ part. part ++ (hands ++ drop 10 (drop 52 (order ++ replicate 16 0)))) (take_at order (replicate 16 0) 52 long)
    ∙ ap (λ part. order ++ (hands ++ drop 10 part)) (drop_at order (replicate 16 0) 52 long) in
    let joined : length (order ++ hands) ≡ 62 = omega (arith, length-append order hands) in
    let again : order ++ (hands ++ replicate 6 0) ≡ (order ++ hands) ++ replicate 6 0 = sym (append_assoc order hands (replicate 6 0)) in
    ap (λ xs. put_mid 62 6 xs counts) (first ∙ again)
    ∙ (ap (λ part. part ++ (counts ++ drop 6 (drop 62 ((order ++ hands) ++ replicate 6 0)))) (take_at (order ++ hands) (replicate 6 0) 62 joined)
    ∙ (ap (λ part. (order ++ hands) ++ (counts ++ drop 6 part)) (drop_at (order ++ hands) (replicate 6 0) 62 joined)
    ∙ (ap (λ part. (order ++ hands) ++ part) (append-nil counts) ∙ append_assoc order hands counts)))

pub deal_is : (order copy hands counts : List ℕ) → length order ≡ 52 → copy ≡ order → hands ≡ between 30 40 order → counts ≡ (15 ∷ 15 ∷ 5 ∷ at order 50 ∷ at order 51 ∷ 0 ∷ []) → put_mid 62 6 (put_mid 52 10 (copy ++ replicate 16 0) hands) counts ≡ dealt order
unfolding dealt
deal_is order copy hands counts long copied held counted =
    ap (λ xs. put_mid 62 6 (put_mid 52 10 (xs ++ replicate 16 0) hands) counts) copied
    ∙ (dealt_parts order hands counts long (ap length held ∙ length-between order 30 40 (omega arith)) (ap length counted)
    ∙ (ap (λ xs. order ++ (xs ++ counts)) held ∙ ap (λ xs. order ++ (between 30 40 order ++ xs)) counted))

-- two parts that meet
join : (card : ℕ) (xs : List ℕ) (a n m : ℕ) → times card (take n (drop a xs)) + times card (take m (drop (a + n) xs)) ≡ times card (take (n + m) (drop a xs))
join card xs a n m =
    let part : List ℕ = drop a xs in
    let front : take n (take (n + m) part) ≡ take n part = take-take n (n + m) part (omega arith) in
    let back : drop n (take (n + m) part) ≡ take m (drop (a + n) xs) = drop-take n m part ∙ ap (take m) (drop-drop n a xs) in
    omega (arith, times_split card n (take (n + m) part), ap (times card) front, ap (times card) back)

-- the deal is lawful
module _ (order : List ℕ) (long : length order ≡ 52) (once : (card : ℕ) → card < 52 → times card order ≡ 1) where
  abbrev counts : List ℕ
  counts = 15 ∷ 15 ∷ 5 ∷ at order 50 ∷ at order 51 ∷ 0 ∷ []

  abbrev table : State
  table = order ++ (between 30 40 order ++ counts)

  short : length (between 30 40 order) ≡ 10
  short = length-between order 30 40 (omega arith)

  card_below : (k : ℕ) → k < 52 → at order k < 52
  card_below k h = pack_below order k long once h

  order_is : take 52 table ≡ order
  order_is = take_at order (between 30 40 order ++ counts) 52 long

  upper : (k : ℕ) → at table (52 + k) ≡ at (between 30 40 order ++ counts) k
  upper k = let e : 52 + k - 52 ≡ k = omega arith in get_or-append_right order _ 52 (52 + k) 0 long (omega arith) ∙ ap (at (between 30 40 order ++ counts)) e

  count_at : (j : ℕ) → at table (62 + j) ≡ at counts j
  count_at j =
      let e : 62 + j ≡ 52 + (10 + j) = omega arith in
      let g : 10 + j - 10 ≡ j = omega arith in
      ap (at table) e ∙ (upper (10 + j) ∙ (get_or-append_right (between 30 40 order) counts 10 (10 + j) 0 short (omega arith) ∙ ap (at counts) g))

  count_le : (j : ℕ) → j < 6 → at counts j ≤ at limits (10 + j)
  unfolding limits
  count_le zero h = omega arith
  count_le (suc zero) h = omega arith
  count_le (suc (suc zero)) h = omega arith
  count_le (suc (suc (suc zero))) h = omega (arith, card_below 50 (omega arith))
  count_le (suc (suc (suc (suc zero)))) h = omega (arith, card_below 51 (omega arith))
  count_le (suc (suc (suc (suc (suc zero))))) h = omega arith
  count_le (suc (suc (suc (suc (suc (suc n)))))) h = absurd (omega arith)

  table_ranged : Ranged table
  table_ranged k h =
      ⊎_elim
      (λ low.
      let held : at table (52 + k) ≡ at order (30 + k) = upper k ∙ (get_or_append_left (between 30 40 order) counts 0 k (omega (arith, short)) ∙ get_or-between order 30 40 k 0 (omega arith)) in
      omega (arith, limit_slot k low, card_below (30 + k) (omega arith)))
      (λ high.
      let j : ℕ = k - 10 in
      let e : 52 + k ≡ 62 + j = omega arith in
      let g : k ≡ 10 + j = omega arith in
      omega (arith, ap (at table) e, count_at j, count_le j (omega arith), ap (at limits) g))
      (cases_lt k 10)

  -- a part of the order, in the table
  part_is : (a e : ℕ) → e ≤ 52 → between a e table ≡ between a e order
  part_is a e h = between_is table a e ∙ (ap (drop a) (take-append-le e order _ (omega arith)) ∙ sym (between_is order a e))

  hands_are : between 52 62 table ≡ between 30 40 order
  hands_are = ap (take 10) (drop_at order _ 52 long) ∙ take_at (between 30 40 order) counts 10 short

  table_wide : length table ≡ 68
  table_wide = omega (arith, length-append order (between 30 40 order ++ counts), length-append (between 30 40 order) counts, long, short)

  tops_are : (card : ℕ) → times card (between 65 67 table) ≡ times card (between 50 52 order)
  tops_are card =
      omega (arith, times_step card table 65 67 (omega arith) (omega (arith, table_wide)), times_step card table 66 67 (omega arith) (omega (arith, table_wide)), times_step card order 50 52 (omega arith) (omega arith), times_step card order 51 52 (omega arith) (omega arith), ap (is_card card) (count_at 3), ap (is_card card) (count_at 4))

  -- the cards in play are those of the order
  table_whole : (card : ℕ) → card < 52 → times card (in_play table) ≡ 1
  table_whole card h =
      let first : times card (undrawn table 0) ≡ times card (between 0 15 order) = ap (λ n. times card (between (15 - n) 15 table)) (count_at 0) ∙ ap (times card) (part_is 0 15 (omega arith)) in
      let second : times card (undrawn table 1) ≡ times card (between 15 30 order) = ap (λ n. times card (between (30 - n) 30 table)) (count_at 1) ∙ ap (times card) (part_is 15 30 (omega arith)) in
      let left : times card (between (45 - sides table) 45 table) ≡ times card (between 40 45 order) = ap (λ n. times card (between (45 - n) 45 table)) (count_at 2) ∙ ap (times card) (part_is 40 45 (omega arith)) in
      let right : times card (between (50 - sides table) 50 table) ≡ times card (between 45 50 order) = ap (λ n. times card (between (50 - n) 50 table)) (count_at 2) ∙ ap (times card) (part_is 45 50 (omega arith)) in
      let hands : times card (between 52 62 table) ≡ times card (between 30 40 order) = ap (times card) hands_are in
      let all : times card (take 52 order) ≡ times card order = ap (times card) (take_all 52 order (omega arith)) in
      omega (arith, in_play_sum card table 0 (omega arith), tops_are card, once card h, join card order 0 15 15, join card order 0 30 10, join card order 0 40 5, join card order 0 45 5, join card order 0 50 2)

  pub sound_dealt : Sound (dealt order)
  unfolding dealt
  sound_dealt =
      record { wide = table_wide; pack = λ card h. ap (times card) order_is ∙ once card h; ranged = table_ranged; apart = λ card h. omega (arith, table_whole card h) }

pub opening_sound : (seed : ℕ) → Sound (opening_state seed)
unfolding opening_state
opening_sound seed = sound_dealt (order_of seed) (order_long seed) (order_once seed)

pub opening_whole : (seed card : ℕ) → card < 52 → times card (in_play (opening_state seed)) ≡ 1
unfolding opening_state dealt
opening_whole seed card h = table_whole (order_of seed) (order_long seed) (order_once seed) card h

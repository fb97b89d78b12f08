-- Sets of cards as numbers.
use Rattle.std.proofs.Common.{◌≡◌, ℕ, ◌+◌, ◌-◌, ◌^◌, ◌<◌, ◌≤◌, true, false, eqb, List, [], ◌∷◌, ◌++◌, is_some, Some, None, Option, sym, refl, ap, ◌∙◌, ⊎_elim, arith}
use lib.Bits.{bit_or}
use Rattle.std.specs.List.{between}
use Rattle.std.specs.Int.{bit_at}
use Rattle.std.proofs.lemmas.Nat.Bits.{bit_at-lt, bit_at-zero, bit_at_or, bit_at-pow_same, bit_at-pow_other, bit_at_ones, same_from_bits_below}
use Rattle.std.specs.Option.{option_eq}
use Rattle.std.proofs.lemmas.Nat.{pow_below, or_lt}
use Rattle.std.proofs.lemmas.Bool.{cases_eq, cases_lt, cond-true, cond-false, lt-ltb, le-ltb, ne_eqb, eq-eqb, cases_Bool, eqb-true, le-leb, lt-leb}
use Rattle.interface.specs.Games.{State}
use Rattle.speed.specs.Places.{sides}
use Rattle.speed.specs.Lawful.{times, none_twice, permutation, undrawn, in_play}
use Rattle.speed.specs.Marks.{with_card, marked}
use Rattle.speed.proofs.Sound.{each_below_passes, each_below_from, each_below_fails}
use Rattle.speed.proofs.Counts.{is_card, is_other, times-∷, times_none}

-- the bits of a set with one card more
bit_with : (seen card k : ℕ) → (bit_at seen card ≡ 1 → ⊥) → bit_at (bit_or seen (2 ^ card)) k ≡ bit_at seen k + is_card k card
bit_with seen card k new =
    ⊎_elim
    (λ e.
    let none : bit_at seen k ≡ 0 = ap (bit_at seen) (sym e) ∙ omega (arith, bit_at-lt seen card) in
    let one : bit_at (2 ^ card) k ≡ 1 = ap (λ n. bit_at (2 ^ n) k) e ∙ bit_at-pow_same k in
    let there : is_card k card ≡ 1 = cond-true _ _ _ (eq-eqb card k e) in
    omega (arith, bit_at_or seen (2 ^ card) k))
    (λ apart. omega (arith, bit_at_or seen (2 ^ card) k, bit_at-pow_other card k (λ e. apart (sym e)), is_other k card apart))
    (cases_eq card k)

-- no set stays none
pub marked_none : (xs : List ℕ) → marked None xs ≡ None
marked_none [] = refl
marked_none (x ∷ xs) = marked_none xs

-- one part more, as the code marks it: the set so far, the part, and what it answers
pub marked_on : (set : Option ℕ) (xs : List ℕ) (seen : ℕ) (ys : List ℕ) (r q : Option ℕ) → set ≡ Some seen → ys ≡ xs → r ≡ marked (Some seen) ys → r ≡ q → marked set xs ≡ q
marked_on set xs seen ys r q is part marks answer = ap (λ s. marked s xs) is ∙ (ap (marked (Some seen)) (sym part) ∙ (sym marks ∙ answer))

pub none_on : (set : Option ℕ) (xs : List ℕ) → set ≡ None → marked set xs ≡ None
none_on set xs none = ap (λ s. marked s xs) none ∙ marked_none xs

-- a list in two parts
marked_joined : (xs ys : List ℕ) (set : Option ℕ) → marked set (xs ++ ys) ≡ marked (marked set xs) ys
marked_joined [] ys set = refl
marked_joined (x ∷ xs) ys set = marked_joined xs ys (with_card set x)

-- one number more
pub marked_skip : (seen card : ℕ) (rest : List ℕ) → 52 ≤ card → marked (Some seen) (card ∷ rest) ≡ marked (Some seen) rest
marked_skip seen card rest h = ap (λ set. marked set rest) (cond-false _ _ _ (le-ltb card 52 h))

pub marked_twice : (seen card : ℕ) (rest : List ℕ) → card < 52 → bit_at seen card ≡ 1 → marked (Some seen) (card ∷ rest) ≡ None
marked_twice seen card rest h old =
    ap (λ set. marked set rest) (cond-true _ _ _ (lt-ltb card 52 h) ∙ cond-true _ _ _ (eq-eqb (bit_at seen card) 1 old)) ∙ marked_none rest

pub marked_new : (seen card : ℕ) (rest : List ℕ) → card < 52 → (bit_at seen card ≡ 1 → ⊥) → marked (Some seen) (card ∷ rest) ≡ marked (Some (bit_or seen (2 ^ card))) rest
marked_new seen card rest h new =
    ap (λ set. marked set rest) (cond-true _ _ _ (lt-ltb card 52 h) ∙ cond-false _ _ _ (ne_eqb (bit_at seen card) 1 new))

-- what a set says of the list that it was made from
pub marked_counts : (xs : List ℕ) (seen t : ℕ) → marked (Some seen) xs ≡ Some t → (card : ℕ) → card < 52 → bit_at t card ≡ bit_at seen card + times card xs
marked_counts [] seen t e card below =
    let same : seen ≡ t = cc in omega (arith, times_none card, ap (λ n. bit_at n card) same)
marked_counts (x ∷ xs) seen t e card below =
    let more = times-∷ card x xs in
    ⊎_elim
    (λ h. ⊎_elim
    (λ old. let gone = marked_twice seen x xs h old in let z : ◌≡◌ {A = ℕ} 0 1 = cc in absurd (omega arith))
    (λ new. omega (arith, bit_with seen x card new, marked_counts xs (bit_or seen (2 ^ x)) t (sym (marked_new seen x xs h new) ∙ e) card below))
    (cases_eq (bit_at seen x) 1))
    (λ h. omega (arith, is_other card x (omega arith), marked_counts xs seen t (sym (marked_skip seen x xs h) ∙ e) card below))
    (cases_lt x 52)

pub marked_repeats : (xs : List ℕ) (seen : ℕ) → marked (Some seen) xs ≡ None → (card : ℕ) × (card < 52) × (2 ≤ bit_at seen card + times card xs)
marked_repeats [] seen e = let z : ◌≡◌ {A = ℕ} 0 1 = cc in absurd (omega arith)
marked_repeats (x ∷ xs) seen e =
    ⊎_elim
    (λ h. ⊎_elim
    (λ old. (x, h, omega (arith, times-∷ x x xs, itself x)))
    (λ new.
    let again = marked_repeats xs (bit_or seen (2 ^ x)) (sym (marked_new seen x xs h new) ∙ e) in
    (again.0, again.1, omega (arith, again.2, bit_with seen x again.0 new, times-∷ again.0 x xs)))
    (cases_eq (bit_at seen x) 1))
    (λ h.
    let again = marked_repeats xs seen (sym (marked_skip seen x xs h) ∙ e) in
    (again.0, again.1, omega (arith, again.2, times-∷ again.0 x xs)))
    (cases_lt x 52)
  where
    itself : (n : ℕ) → is_card n n ≡ 1
    itself n = cond-true _ _ _ (eq-eqb n n refl)

pub marked_below : (xs : List ℕ) (seen t : ℕ) → seen < 2 ^ 52 → marked (Some seen) xs ≡ Some t → t < 2 ^ 52
marked_below [] seen t small e = let same : seen ≡ t = cc in omega arith
marked_below (x ∷ xs) seen t small e =
    ⊎_elim
    (λ h. ⊎_elim
    (λ old. let gone = marked_twice seen x xs h old in let z : ◌≡◌ {A = ℕ} 0 1 = cc in absurd (omega arith))
    (λ new. marked_below xs (bit_or seen (2 ^ x)) t (or_lt 52 seen (2 ^ x) small (pow_below x 52 h)) (sym (marked_new seen x xs h new) ∙ e))
    (cases_eq (bit_at seen x) 1))
    (λ h. marked_below xs seen t small (sym (marked_skip seen x xs h) ∙ e))
    (cases_lt x 52)

-- the tests by sets are the tests of lawfulness
apart_some : (xs : List ℕ) (t : ℕ) → marked (Some 0) xs ≡ Some t → none_twice xs ≡ true
apart_some xs t e =
    each_below_from 52 _ (λ card h. le-leb _ _ (omega (arith, marked_counts xs 0 t e card h, bit_at-zero card)))

apart_none : (xs : List ℕ) → marked (Some 0) xs ≡ None → none_twice xs ≡ false
apart_none xs e =
    let again = marked_repeats xs 0 e in
    each_below_fails 52 _ again.0 again.1 (lt-leb _ _ (omega (arith, again.2, bit_at-zero again.0)))

pub apart_is : (xs : List ℕ) → is_some (marked (Some 0) xs) ≡ none_twice xs
apart_is xs = go (marked (Some 0) xs) refl
  where
    go : (set : Option ℕ) → marked (Some 0) xs ≡ set → is_some set ≡ none_twice xs
    go None e = sym (apart_none xs e)
    go (Some t) e = sym (apart_some xs t e)

order_some : (xs : List ℕ) (t : ℕ) → marked (Some 0) xs ≡ Some t → permutation xs ≡ eqb t 4503599627370495
order_some xs t e =
    let count : (card : ℕ) → card < 52 → bit_at t card ≡ times card xs = λ card h. omega (arith, marked_counts xs 0 t e card h, bit_at-zero card) in
    ⊎_elim
    (λ all.
    each_below_from 52 (λ card. eqb (times card xs) 1) (λ card h. eq-eqb _ _ (sym (count card h) ∙ (ap (λ n. bit_at n card) all ∙ bit_at_ones 52 card h)))
    ∙ sym (eq-eqb t 4503599627370495 all))
    (λ some.
    ⊎_elim
    (λ passes. absurd (some (same_from_bits_below 52 t 4503599627370495 (marked_below xs 0 t (omega arith) e) (omega arith) (λ card h. count card h ∙ (eqb-true _ _ (each_below_passes 52 (λ card. eqb (times card xs) 1) passes card h) ∙ sym (bit_at_ones 52 card h))))))
    (λ fails. fails ∙ sym (ne_eqb t 4503599627370495 some))
    (cases_Bool (permutation xs)))
    (cases_eq t 4503599627370495)

order_none : (xs : List ℕ) → marked (Some 0) xs ≡ None → permutation xs ≡ false
order_none xs e =
    let again = marked_repeats xs 0 e in
    each_below_fails 52 _ again.0 again.1 (ne_eqb _ _ (omega (arith, again.2, bit_at-zero again.0)))

pub order_is : (xs : List ℕ) → option_eq eqb (marked (Some 0) xs) (Some 4503599627370495) ≡ permutation xs
order_is xs = go (marked (Some 0) xs) refl
  where
    go : (set : Option ℕ) → marked (Some 0) xs ≡ set → option_eq eqb set (Some 4503599627370495) ≡ permutation xs
    go None e = sym (order_none xs e)
    go (Some t) e = sym (order_some xs t e)

-- the cards in play, part by part
pub marked_in_play : (w : State) (set : Option ℕ) → marked set (in_play w) ≡ marked (marked (marked (marked (marked (marked set (between 52 62 w)) (undrawn w 0)) (undrawn w 1)) (between (45 - sides w) 45 w)) (between (50 - sides w) 50 w)) (between 65 67 w)
unfolding in_play
marked_in_play w set =
    marked_joined (between 52 62 w) _ set ∙ (marked_joined (undrawn w 0) _ _ ∙ (marked_joined (undrawn w 1) _ _ ∙ (marked_joined (between (45 - sides w) 45 w) _ _ ∙ marked_joined (between (50 - sides w) 50 w) (between 65 67 w) _)))

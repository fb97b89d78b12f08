-- How often a card stands in a part of a list, and what a write changes of it.
use Rattle.std.proofs.Common.{◌≡◌, ℕ, zero, suc, ◌+◌, ◌-◌, ◌<◌, ◌≤◌, cond, eqb, ◌⊎◌, List, [], ◌∷◌, ◌++◌, length, get_or, take, drop, set, sym, refl, ap, ◌∙◌, inl, inr, arith}
use lib.Seq.{take-set-lt}
use Rattle.std.specs.List.{between}
use Rattle.std.proofs.lemmas.List.{drop-set-lt, take-set-le, drop-set-add, take-take, drop_more}
use Rattle.std.proofs.lemmas.Slice.{between_is}
use Rattle.std.proofs.lemmas.List.Edits.{get_or-between, length-between}
use Rattle.std.proofs.lemmas.List.Sums.{sum_by-append, sum_by-cons, sum_by-set, sum_by-take-drop}
use Rattle.std.proofs.lemmas.Bool.{ne_eqb}
use Rattle.interface.specs.Games.{State}
use Rattle.speed.specs.Places.{at, sides}
use Rattle.speed.specs.Lawful.{times, in_play, undrawn}

-- 1 for the card itself, else 0
abbrev pub is_card : ℕ → ℕ → ℕ
is_card card x = cond (eqb x card) 1 0

pub is_other : (card x : ℕ) → (x ≡ card → ⊥) → is_card card x ≡ 0
is_other card x apart = ap (λ b. cond b 1 0) (ne_eqb x card apart)

pub times_joined : (card : ℕ) (xs ys : List ℕ) → times card (xs ++ ys) ≡ times card xs + times card ys
unfolding times
times_joined card xs ys = sum_by-append (is_card card) xs ys

pub times-∷ : (card x : ℕ) (xs : List ℕ) → times card (x ∷ xs) ≡ is_card card x + times card xs
unfolding times
times-∷ card x xs = sum_by-cons (is_card card) x xs

pub times_none : (card : ℕ) → times card [] ≡ 0
unfolding times
times_none card = refl

pub times_split : (card n : ℕ) (xs : List ℕ) → times card (take n xs) + times card (drop n xs) ≡ times card xs
unfolding times
times_split card n xs = sum_by-take-drop (is_card card) xs n

-- the part of a list from a place on
pub between_step : (w : List ℕ) (k e : ℕ) → k < e → k < length w → between k e w ≡ at w k ∷ between (k + 1) e w
between_step w k e below inside = let n : e - k ≡ suc (e - (k + 1)) = omega arith in rw (n, drop_more w k 0)

pub times_step : (card : ℕ) (w : List ℕ) (k e : ℕ) → k < e → k < length w → times card (between k e w) ≡ is_card card (at w k) + times card (between (k + 1) e w)
times_step card w k e below inside = ap (times card) (between_step w k e below inside) ∙ times-∷ card (at w k) _

-- a write outside a part leaves it
pub between_set_apart : (w : List ℕ) (a e i v : ℕ) → (i < a) ⊎ (e ≤ i) → between a e (set w i v) ≡ between a e w
between_set_apart w a e i v (inl h) = ap (take (e - a)) (drop-set-lt a w i v h)
between_set_apart w a e i v (inr h) =
    between_is (set w i v) a e ∙ (ap (drop a) (take-set-le e w i v h) ∙ sym (between_is w a e))

-- one inside it takes the old card out and puts the new one in
pub times_set : (card : ℕ) (w : List ℕ) (a e i v : ℕ) → a ≤ i → i < e → e ≤ length w → times card (between a e (set w i v)) + is_card card (at w i) ≡ times card (between a e w) + is_card card v
unfolding times
times_set card w a e i v low high fits =
    let j : ℕ = i - a in
    let place : i ≡ a + j = omega arith in
    let near : j < e - a = omega arith in
    let within : a + j < e = omega arith in
    let inside : j < length (between a e w) = omega (arith, length-between w a e fits) in
    let part : between a e (set w i v) ≡ set (between a e w) j v = ap (λ k. between a e (set w k v)) place ∙ (ap (take (e - a)) (drop-set-add a w j v) ∙ take-set-lt (e - a) (drop a w) j v near) in
    let old : get_or (between a e w) j 0 ≡ at w i = get_or-between w a e j 0 within ∙ ap (at w) (sym place) in
    ap (λ xs. times card xs + is_card card (at w i)) part ∙ (ap (λ x. times card (set (between a e w) j v) + is_card card x) (sym old) ∙ sum_by-set (is_card card) (between a e w) j v 0 inside)

-- lists with the same order have the same parts of it
pub order_between : (w v : List ℕ) (a e : ℕ) → take 52 v ≡ take 52 w → e ≤ 52 → between a e v ≡ between a e w
order_between w v a e same h =
    between_is v a e ∙ (ap (drop a) (sym (take-take e 52 v h)) ∙ (ap (λ xs. drop a (take e xs)) same ∙ (ap (drop a) (take-take e 52 w h) ∙ sym (between_is w a e))))

-- the cards in play, part by part; the undrawn cards by any one seat and the other
pub both_undrawn : (card : ℕ) (w : State) (seat : ℕ) → seat < 2 → times card (undrawn w 0) + times card (undrawn w 1) ≡ times card (undrawn w seat) + times card (undrawn w (1 - seat))
both_undrawn card w zero h = refl
both_undrawn card w (suc zero) h = omega arith
both_undrawn card w (suc (suc n)) h = absurd (omega arith)

pub in_play_sum : (card : ℕ) (w : State) (seat : ℕ) → seat < 2 → times card (in_play w) ≡ times card (between 52 62 w) + times card (undrawn w seat) + times card (undrawn w (1 - seat)) + times card (between (45 - sides w) 45 w) + times card (between (50 - sides w) 50 w) + times card (between 65 67 w)
unfolding in_play
in_play_sum card w seat h =
    let hands : List ℕ = between 52 62 w in
    let first : List ℕ = undrawn w 0 in
    let second : List ℕ = undrawn w 1 in
    let left : List ℕ = between (45 - sides w) 45 w in
    let right : List ℕ = between (50 - sides w) 50 w in
    let tops : List ℕ = between 65 67 w in
    omega (arith, both_undrawn card w seat h, times_joined card hands (first ++ (second ++ (left ++ (right ++ tops)))), times_joined card first (second ++ (left ++ (right ++ tops))), times_joined card second (left ++ (right ++ tops)), times_joined card left (right ++ tops), times_joined card right tops)

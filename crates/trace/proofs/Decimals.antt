-- Numbers written and read.
use Rattle.std.proofs.Common.{◌≡◌, ℕ, ◌+◌, ◌-◌, ◌*◌, ◌^◌, ◌<◌, ◌≤◌, Bool, true, false, cond, not, ◌&&◌, eqb, leb, List, [], ◌∷◌, length, get_or, Some, None, decimal, sym, refl, ap, ◌∙◌, ⊎_elim, arith, rules}
use Rattle.std.specs.Char.{is_ascii_digit}
use Rattle.std.specs.List.{list_all}
use Rattle.std.proofs.lemmas.Option.{cond_some}
use Rattle.std.specs.Str.{all_ascii_digits}
use Rattle.std.proofs.lemmas.Str.Parse.{IsNumeralModel, numerals_by_fold}
use Rattle.std.proofs.lemmas.Fmt.{digits_decimal, digits_value-decimal, decimal-digits_value, decimal_digit, first_decimal}
use Rattle.std.proofs.lemmas.Bool.{le-leb, lt-leb, leb-true, leb-false, cases_lt, and_parts, and_right, and_from, ne_eqb, eqb-false, cond-true, not-true}
use Rattle.std.proofs.lemmas.Bool.Decides.{nat_tests}
use Rattle.trace.specs.Numbers.{most_32, value_after, value, no_leading_zero, numeral, digits_after, number}
use Rattle.trace.proofs.Joins.{Free}

own : IsNumeralModel (λ ds. all_ascii_digits ds ≡ true) (value_after 0)
own = numerals_by_fold _ (search rules) value_after (search rules)

no_zero : (w : List ℕ) → 48 < get_or w 0 0 → no_leading_zero w ≡ true
no_zero [] h = absurd (omega arith)
no_zero (c ∷ []) h = refl
no_zero (c ∷ d ∷ w) h = ap not (ne_eqb c 48 (omega arith))

decimal_no_zero : (n : ℕ) → n < 2 ^ 64 → no_leading_zero (decimal n) ≡ true
decimal_no_zero n h =
    ⊎_elim
    (λ (small : n < 10). ap no_leading_zero (decimal_digit n small))
    (λ large. no_zero (decimal n) (first_decimal n (omega arith) h))
    (cases_lt n 10)

-- what is written reads back
pub number_decimal : (most n : ℕ) → n ≤ most → n < 2 ^ 64 → number most (decimal n) ≡ Some n
number_decimal most n few h =
    let v : value (decimal n) ≡ n = digits_value-decimal own n h in
    let fits : leb (value (decimal n)) most ≡ true = le-leb (value (decimal n)) most (omega arith) in
    let good : numeral (decimal n) ≡ true = and_from _ _ (decimal_no_zero n h) (digits_decimal own n h) in
    cond-true _ (Some (value (decimal n))) None (and_from _ _ good fits) ∙ ap Some v

-- read digit by digit, a number is its value, or nothing from the first byte that is no digit or makes it too large
value_ge : (n : ℕ) (ds : List ℕ) → n ≤ value_after n ds
value_ge n [] = omega arith
value_ge n (c ∷ cs) = let ih = value_ge (10 * n + (c - 48)) cs in omega arith

pub digits_none : (w : List ℕ) → digits_after None w ≡ None
digits_none [] = refl
digits_none (c ∷ w) = digits_none w

digits_from : (n : ℕ) (w : List ℕ) → n ≤ most_32 → digits_after (Some n) w ≡ cond (all_ascii_digits w && leb (value_after n w) most_32) (Some (value_after n w)) None
digits_from n [] h = sym (ap (λ t. cond t (Some n) None) (le-leb n most_32 h))
digits_from n (c ∷ w) h = go (is_ascii_digit c) (leb (10 * n + (c - 48)) most_32) refl refl (λ few. digits_from (10 * n + (c - 48)) w few)
  where
    m : ℕ
    m = 10 * n + (c - 48)

    go : (s t : Bool) → is_ascii_digit c ≡ s → leb m most_32 ≡ t → (m ≤ most_32 → digits_after (Some m) w ≡ cond (all_ascii_digits w && leb (value_after m w) most_32) (Some (value_after m w)) None) → digits_after (cond (is_ascii_digit c && leb m most_32) (Some m) None) w ≡ cond ((is_ascii_digit c && all_ascii_digits w) && leb (value_after m w) most_32) (Some (value_after m w)) None
    go false t d f ih =
        ap (λ s. digits_after (cond (s && leb m most_32) (Some m) None) w) d ∙ digits_none w
        ∙ sym (ap (λ s. cond ((s && all_ascii_digits w) && leb (value_after m w) most_32) (Some (value_after m w)) None) d)
    go true false d f ih =
        let more = value_ge m w in
        let large : most_32 < m = leb-false m most_32 f in
        let over : leb (value_after m w) most_32 ≡ false = lt-leb (value_after m w) most_32 (omega arith) in
        ap (λ s. digits_after (cond (s && leb m most_32) (Some m) None) w) d ∙ ap (λ t. digits_after (cond t (Some m) None) w) f ∙ digits_none w
        ∙ sym (ap (λ t. cond t (Some (value_after m w)) None) (and_right (is_ascii_digit c && all_ascii_digits w) (leb (value_after m w) most_32) over))
    go true true d f ih =
        ap (λ s. digits_after (cond (s && leb m most_32) (Some m) None) w) d ∙ ap (λ t. digits_after (cond t (Some m) None) w) f
        ∙ ih (leb-true m most_32 f)
        ∙ sym (ap (λ s. cond ((s && all_ascii_digits w) && leb (value_after m w) most_32) (Some (value_after m w)) None) d)

pub digits_number : (w : List ℕ) → no_leading_zero w ≡ true → digits_after (Some 0) w ≡ number most_32 w
digits_number w zero = digits_from 0 w (omega arith) ∙ sym (ap (λ t. cond ((t && all_ascii_digits w) && leb (value w) most_32) (Some (value w)) None) zero)

pub no_numeral : (w : List ℕ) → no_leading_zero w ≡ false → None ≡ number most_32 w
no_numeral w zero = sym (ap (λ t. cond ((t && all_ascii_digits w) && leb (value w) most_32) (Some (value w)) None) zero)

lone_zero : (w : List ℕ) → no_leading_zero w ≡ true → get_or w 0 0 ≡ 48 → length w ≡ 1
lone_zero [] h e = absurd (omega arith)
lone_zero (c ∷ []) h e = refl
lone_zero (c ∷ d ∷ w) h e = absurd (eqb-false c 48 (not-true (eqb c 48) h) e)

has_digit : (w : List ℕ) → no_leading_zero w ≡ true → 0 < length w
has_digit [] h = cc
has_digit (c ∷ w) h = omega arith

-- and a word that is a number is as that number is written
pub decimal_number : (most n : ℕ) (w : List ℕ) → most < 2 ^ 64 → number most w ≡ Some n → (w ≡ decimal n) × (n ≤ most)
decimal_number most n w limit e =
    let p = cond_some (numeral w && leb (value w) most) (value w) n e in
    let q = and_parts (numeral w) (leb (value w) most) p.0 in
    let r = and_parts (no_leading_zero w) (all_ascii_digits w) q.0 in
    let few = leb-true (value w) most q.1 in
    let same = decimal-digits_value own w r.1 (has_digit w r.0) (lone_zero w r.0) (omega arith) in
    (sym same ∙ ap decimal p.1, omega (arith, p.1))

-- letters and digits part nothing
pub letters_free : (s : ℕ) (w : List ℕ) → s < 48 → list_all (λ b. leb 48 b) w ≡ true → Free s w
letters_free s [] h e = tt
letters_free s (c ∷ w) h e =
    let p = and_parts (leb 48 c) (list_all (λ b. leb 48 b) w) e in
    let high = leb-true 48 c p.0 in
    (ne_eqb c s (omega arith), letters_free s w h p.1)

digit_free : (s c : ℕ) → s < 48 → is_ascii_digit c ≡ true → eqb c s ≡ false
digit_free s c h e = grind (arith, nat_tests)

digits_free : (s : ℕ) (w : List ℕ) → s < 48 → all_ascii_digits w ≡ true → Free s w
digits_free s [] h e = tt
digits_free s (c ∷ w) h e =
    let p = and_parts (is_ascii_digit c) (all_ascii_digits w) e in
    (digit_free s c h p.0, digits_free s w h p.1)

pub decimal_free : (s n : ℕ) → s < 48 → n < 2 ^ 64 → Free s (decimal n)
decimal_free s n h k = digits_free s (decimal n) h (digits_decimal own n k)

-- Codes, read and put one by one.
use Rattle.std.proofs.Common.{◌≡◌, ℕ, ◌+◌, ◌-◌, ◌<◌, ◌≤◌, Bool, true, cond, ltb, List, [], ◌∷◌, ◌++◌, map, length, sym, ap, ◌∙◌, arith}
use Rattle.std.specs.List.{range_with_len}
use Rattle.std.proofs.lemmas.List.FromFn.{map-range_with_len_more, length-map-range_with_len}
use Rattle.std.proofs.lemmas.Bool.{lt-ltb}

-- one code more of the frames from a on
pub code_more : (f : ℕ → ℕ) (a k c : ℕ) (cs cs' : List ℕ) (r : Bool) → a ≤ k → k < a + 32 → c ≡ f k → cs ≡ map f (range_with_len a (k - a)) → r ≡ ltb (length cs) 32 → cs' ≡ cond r (cs ++ c ∷ []) cs → cs' ≡ map f (range_with_len a (k + 1 - a))
code_more f a k c cs cs' r low near is inv room push =
    let long : length cs ≡ k - a = ap length inv ∙ length-map-range_with_len f a (k - a) in
    let free : r ≡ true = room ∙ lt-ltb (length cs) 32 (omega arith) in
    let one : k + 1 - a ≡ k - a + 1 = omega arith in
    push ∙ ap (λ b. cond b (cs ++ c ∷ []) cs) free ∙ ap (λ xs. xs ++ c ∷ []) inv ∙ ap (λ x. map f (range_with_len a (k - a)) ++ x ∷ []) is
    ∙ sym (map-range_with_len_more f a (k - a) k (omega arith)) ∙ sym (ap (λ n. map f (range_with_len a n)) one)

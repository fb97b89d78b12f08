-- The states that a seat lists, as a keeper comes by them: going back drops the newest, and a step ahead puts one in front.
use Rattle.std.proofs.Common.{◌≡◌, ℕ, zero, suc, ◌+◌, ◌<◌, ◌≤◌, min, Bool, ◌∷◌, length, take, drop, sym, refl, ap, ◌∙◌, arith}
use Rattle.std.proofs.lemmas.List.{drop-take, take_all, length-take}
use Rattle.interface.specs.Limits.{most_listed}
use Rattle.plain.specs.Rules.{Rules}
use Rattle.plain.specs.Match.{Plain, played}
use Rattle.plain.specs.States.{plain_state, down_from, listed}
use Rattle.plain.proofs.Walks.{down_same}

pub length_down : {X : Type 0} (f : ℕ → X) (n : ℕ) → length (down_from f n) ≡ n + 1
length_down f zero = refl
length_down f (suc n) = let e = length_down f n in omega arith

-- by hand, as grind stops at its limit here
pub length_listed : {S I : Type 0} (r : Rules S I) (p : Plain I) (s : Bool) → length (listed r p s) ≡ min most_listed (played p s + 1)
length_listed r p s = length-take most_listed _ ∙ ap (λ n. min most_listed n) (length_down (plain_state r p s) (played p s))

drop_down : {X : Type 0} (f : ℕ → X) (n d : ℕ) → drop d (down_from f (n + d)) ≡ down_from f n
drop_down f n zero = let e : n + 0 ≡ n = omega arith in ap (down_from f) e
drop_down f n (suc d) = let e : n + suc d ≡ suc (n + d) = omega arith in ap (λ k. drop (suc d) (down_from f k)) e ∙ drop_down f n d

-- going back d frames from n + d, where the states up to n are the same in g
pub go_back : {X : Type 0} (f g : ℕ → X) (n d m : ℕ) → ((k : ℕ) → k ≤ n → g k ≡ f k) → drop d (take (d + m) (down_from f (n + d))) ≡ take m (down_from g n)
go_back f g n d m same = drop-take d m _ ∙ ap (take m) (drop_down f n d ∙ sym (down_same f g n same))

-- a step ahead from n, where m states are left
-- by hand, as grind stops at its limit here
pub step_ahead : {X : Type 0} (g : ℕ → X) (n m : ℕ) → m < most_listed → take most_listed (g (suc n) ∷ take m (down_from g n)) ≡ take (suc m) (down_from g (suc n))
step_ahead g n m h =
    let short = length-take m (down_from g n) in
    ap (λ xs. g (suc n) ∷ xs) (take_all 8 (take m (down_from g n)) (omega arith))

-- States are the same where the inputs are, and what a seat lists.
use Rattle.std.proofs.Common.{◌≡◌, ℕ, zero, suc, ◌+◌, ◌-◌, ◌<◌, ◌≤◌, Bool, true, false, [], ◌∷◌, Some, refl, ap, ◌∙◌, arith}
use Rattle.std.specs.List.{slice_get}
use Rattle.std.proofs.lemmas.List.{length-take}
use Rattle.std.proofs.lemmas.Option.{slice_get_within}
use Rattle.std.proofs.lemmas.Bool.{cond-true, lt-ltb}
use Rattle.interface.specs.Limits.{most_listed}
use Rattle.interface.proofs.Slots.{slice_get-take}
use Rattle.plain.specs.Rules.{Rules}
use Rattle.plain.specs.Match.{Plain, other, played, known}
use Rattle.plain.specs.States.{walk, true_input, other_input, plain_state, truth, stepped, down_from, listed}
use Rattle.plain.specs.Laws.{Lists}
use Rattle.plain.proofs.Growth.{Grown}

module _ {S I : Type 0} (r : Rules S I) where
  pub walk_same : (f g f' g' : ℕ → I) (n : ℕ) → ((k : ℕ) → k < n → f' k ≡ f k) → ((k : ℕ) → k < n → g' k ≡ g k) → walk r f' g' n ≡ walk r f g n
  walk_same f g f' g' zero a b = refl
  walk_same f g f' g' (suc n) a b =
      let before = walk_same f g f' g' n (λ k h. a k (omega arith)) (λ k h. b k (omega arith)) in
      let x = a n (omega arith) in
      let y = b n (omega arith) in
      cc

  -- a seat's states are the same where its own inputs and the other's, as it has them, are
  pub same_states : (p q : Plain I) (s : Bool) (n : ℕ) → ((k : ℕ) → k < n → true_input r q s k ≡ true_input r p s k) → ((k : ℕ) → k < n → other_input r q s k ≡ other_input r p s k) → plain_state r q s n ≡ plain_state r p s n
  same_states p q true n own others = walk_same _ _ _ _ n others own
  same_states p q false n own others = walk_same _ _ _ _ n own others

  -- one frame more
  pub next_frame : (p : Plain I) (s : Bool) (n : ℕ) → plain_state r p s (suc n) ≡ stepped r s (plain_state r p s n) (true_input r p s n) (other_input r p s n)
  next_frame p s n = grind arith

  -- a known input is the true one
  pub known_input : (p : Plain I) (s : Bool) (f : ℕ) → f < known p s → other_input r p s f ≡ true_input r p (other s) f
  known_input p s f h = cond-true _ _ _ (lt-ltb f (known p s) h)

  -- a state that steps through known inputs alone is the truth
  pub known_is_true : (p : Plain I) (s : Bool) (n : ℕ) → n ≤ known p s → plain_state r p s n ≡ truth r p n
  known_is_true p true n h = walk_same _ _ _ _ n (λ k i. known_input p true k (omega arith)) (λ k i. refl)
  known_is_true p false n h = walk_same _ _ _ _ n (λ k i. refl) (λ k i. known_input p false k (omega arith))

  -- the truth of frames that both have played stays
  pub truth_stays : (p q : Plain I) → Grown p q → (n : ℕ) → n ≤ played p false → n ≤ played p true → truth r q n ≡ truth r p n
  truth_stays p q g n a b = walk_same _ _ _ _ n (λ k i. (g.sides false).same_inputs k r.idle (omega arith)) (λ k i. (g.sides true).same_inputs k r.idle (omega arith))

slice_get_down : {X : Type 0} (f : ℕ → X) (m i : ℕ) → i ≤ m → slice_get (down_from f m) i ≡ Some (f (m - i))
slice_get_down f zero zero h = refl
slice_get_down f zero (suc i) h = absurd (omega arith)
slice_get_down f (suc m) zero h = grind arith
slice_get_down f (suc m) (suc i) h = let rest = slice_get_down f m i in grind arith

-- the same values down from n
pub down_same : {X : Type 0} (f g : ℕ → X) (n : ℕ) → ((k : ℕ) → k ≤ n → g k ≡ f k) → down_from g n ≡ down_from f n
down_same f g zero h = ap (λ x. x ∷ []) (h 0 (omega arith))
down_same f g (suc n) h =
    let x = h (suc n) (omega arith) in
    let rest = down_same f g n (λ k i. h k (omega arith)) in
    cc

module _ {S I : Type 0} (r : Rules S I) where
  -- place i of the list has state P − i
  pub slice_get_listed : (p : Plain I) (s : Bool) (i : ℕ) → i ≤ played p s → i < most_listed → slice_get (listed r p s) i ≡ Some (plain_state r p s (played p s - i))
  slice_get_listed p s i a b = slice_get-take most_listed (down_from (plain_state r p s) (played p s)) i b ∙ slice_get_down (plain_state r p s) (played p s) i a

  pub lists : (p : Plain I) (s : Bool) (n : ℕ) → n ≤ played p s → played p s < n + most_listed → Lists r p s n (plain_state r p s n)
  lists p s n a b =
      let e : played p s - (played p s - n) ≡ n = omega arith in
      (a, slice_get_listed p s (played p s - n) (omega arith) (omega arith) ∙ ap (λ k. Some (plain_state r p s k)) e)

  -- what a seat lists as its state n is its plain state n
  pub listed_is : (p : Plain I) (s : Bool) (n : ℕ) (x : S) → Lists r p s n x → x ≡ plain_state r p s n
  listed_is p s n x h =
      let inside = slice_get_within (listed r p s) (played p s - n) x h.1 in
      let there = lists p s n h.0 in
      grind (arith, length-take)

-- What a turn does to plain states.
use Rattle.std.proofs.Common.{◌≡◌, ℕ, suc, ◌+◌, ◌<◌, ◌≤◌, Bool, true, false, ◌∷◌, take, Some, None, Option, sym, refl, ap, ◌∙◌, subst, arith}
use Rattle.std.proofs.lemmas.List.{get_or_append_left, get_or_push, length_push, take-append-le, take-take}
use Rattle.std.proofs.lemmas.Bool.Decides.{nat_tests}
use Rattle.interface.specs.declared.answers.Refusal.{Refusal}
use Rattle.interface.specs.Answers.{accepted}
use Rattle.interface.specs.Limits.{most_listed}
use Rattle.plain.specs.Rules.{Rules}
use Rattle.plain.specs.Match.{Plain, Turn, Lent, Move, Press, Send, Take, other, played, known, acting, turn, unless_refused, pressed, noted, input_of, refusal, moved, answer, after}
use Rattle.plain.specs.States.{true_input, other_input, plain_state, stepped, down_from}
use Rattle.plain.specs.Laws.{Counts, SameUpTo, PressAdds}
use Rattle.plain.proofs.Steps.{accepted_only}
use Rattle.plain.proofs.Walks.{same_states, next_frame, down_same}

module _ {S I : Type 0} (r : Rules S I) where
  -- what holds of the match as it was, and as the move would leave it, holds after the turn
  pub either_way : (P : Plain I → Type 0) (p : Plain I) (t : Turn) → P p → P (moved r p (acting t) t.move) → P (after r p t)
  either_way P p t old new = at (refusal r p t)
    where
      at : (o : Option Refusal) → P (unless_refused o p (moved r p (acting t) t.move))
      at None = new
      at (Some why) = old

  pub refused_stays : (p : Plain I) (t : Turn) → (answer r p t ≡ accepted → ⊥) → after r p t ≡ p
  refused_stays p t e = grind arith

  pub after_accepted : (p : Plain I) (t : Turn) → answer r p t ≡ accepted → after r p t ≡ moved r p (acting t) t.move
  after_accepted p t e = grind (arith, accepted_only)

module _ {S I : Type 0} (r : Rules S I) where
  -- an input pressed by one seat is no input that the other has
  other_pressed : (p : Plain I) (s : Bool) (x : I) → known p (other s) ≤ played p s → (f : ℕ) → other_input r (pressed p s x) (other s) f ≡ other_input r p (other s) f
  other_pressed p s x h f = grind (arith, nat_tests, get_or_append_left, take-append-le)

  known_at_most : (p : Plain I) (s : Bool) → ((t : Bool) → Counts p t) → known p (other s) ≤ played p s
  known_at_most p s c = grind (arith, c true, c false)

  own_pressed : (p : Plain I) (s : Bool) (x : I) (f : ℕ) → true_input r (pressed p s x) (other s) f ≡ true_input r p (other s) f
  own_pressed p s x f = grind arith

  -- a move of one seat changes no state of the other
  others_keep_moved : (p : Plain I) (s : Bool) (m : Move) → known p (other s) ≤ played p s → (n : ℕ) → plain_state r (moved r p s m) (other s) n ≡ plain_state r p (other s) n
  others_keep_moved p s (Press code) h n = same_states r p (pressed p s (input_of r code)) (other s) n (λ k i. own_pressed p s (input_of r code) k) (λ k i. other_pressed p s (input_of r code) h k)
  others_keep_moved p s (Send records) h n = grind arith
  others_keep_moved p s (Take k records) h n = grind arith

  pub send_keeps_moved : (p : Plain I) (s t : Bool) (n : ℕ) → plain_state r (noted p s) t n ≡ plain_state r p t n
  send_keeps_moved p s t n = grind arith

  -- a press of a seat changes nothing that it has of the other
  pub press_hears_nothing : (p : Plain I) (s : Bool) (x : I) (f : ℕ) → other_input r (pressed p s x) s f ≡ other_input r p s f
  press_hears_nothing p s x f = grind arith

  pub send_hears_nothing : (p : Plain I) (s t : Bool) (f : ℕ) → other_input r (noted p s) t f ≡ other_input r p t f
  send_hears_nothing p s t f = grind arith

  own_kept : (p : Plain I) (s : Bool) (x : I) (f : ℕ) → f < played p s → true_input r (pressed p s x) s f ≡ true_input r p s f
  own_kept p s x f h = grind (arith, get_or_append_left)

  own_new : (p : Plain I) (s : Bool) (x : I) → true_input r (pressed p s x) s (played p s) ≡ x
  own_new p s x = grind (arith, get_or_push)

  one_more : (p : Plain I) (s : Bool) (x : I) → played (pressed p s x) s ≡ played p s + 1
  one_more p s x = grind (arith, length_push)

  pub press_keeps_moved : (p : Plain I) (s : Bool) (x : I) (n : ℕ) → n ≤ played p s → plain_state r (pressed p s x) s n ≡ plain_state r p s n
  press_keeps_moved p s x n h = same_states r p (pressed p s x) s n (λ k i. own_kept p s x k (omega arith)) (λ k i. press_hears_nothing p s x k)

  -- the state that a press adds
  new_state : (p : Plain I) (s : Bool) (x : I) → plain_state r (pressed p s x) s (suc (played p s)) ≡ stepped r s (plain_state r p s (played p s)) x (other_input r p s (played p s))
  new_state p s x =
      let q = pressed p s x in
      let n = played p s in
      let a = next_frame r q s n in
      let b = press_keeps_moved p s x n (omega arith) in
      let c = own_new p s x in
      let d = press_hears_nothing p s x n in
      cc

  pub press_adds_moved : (p : Plain I) (s : Bool) (x : I) → PressAdds r p (pressed p s x) s x
  press_adds_moved p s x =
      let q = pressed p s x in
      let n = played p s in
      let long : played q s ≡ suc n = omega (arith, one_more p s x) in
      let new = stepped r s (plain_state r p s n) x (other_input r p s n) in
      let old = down_from (plain_state r p s) n in
      record {
        one_frame = one_more p s x;
        next_state = ap (plain_state r q s) long ∙ new_state p s x;
        next_listed =
            ap (λ m. take most_listed (down_from (plain_state r q s) m)) long
            ∙ ap (λ y. y ∷ take 8 (down_from (plain_state r q s) n)) (new_state p s x)
            ∙ ap (λ ys. new ∷ take 8 ys) (down_same (plain_state r p s) (plain_state r q s) n (λ k i. press_keeps_moved p s x k i))
            ∙ ap (λ ys. new ∷ ys) (sym (take-take 8 9 old (omega arith)));
      }

  -- the same of the match after a turn
  pub others_keep : (p : Plain I) (t : Turn) → ((s : Bool) → Counts p s) → (n : ℕ) → SameUpTo r (other (acting t)) n p (after r p t)
  others_keep p t c n k i = either_way r (λ q. plain_state r q (other (acting t)) k ≡ plain_state r p (other (acting t)) k) p t refl (others_keep_moved p (acting t) t.move (known_at_most p (acting t) c) k)

  pub press_keeps : (p : Plain I) (n : ℕ) (l : Lent) (code : ℕ) → let t = turn n l (Press code) in SameUpTo r (acting t) (played p (acting t)) p (after r p t)
  press_keeps p n l code k i =
      let t = turn n l (Press code) in
      either_way r (λ q. plain_state r q (acting t) k ≡ plain_state r p (acting t) k) p t refl (press_keeps_moved p (acting t) (input_of r code) k i)

  pub press_adds : (p : Plain I) (n : ℕ) (l : Lent) (code : ℕ) → let t = turn n l (Press code) in answer r p t ≡ accepted → PressAdds r p (after r p t) (acting t) (input_of r code)
  press_adds p n l code e =
      let t = turn n l (Press code) in
      subst (λ q. PressAdds r p q (acting t) (input_of r code)) (sym (after_accepted r p t e)) (press_adds_moved p (acting t) (input_of r code))

  pub send_keeps : (p : Plain I) (n : ℕ) (l : Lent) (records : ℕ) (s : Bool) (m : ℕ) → SameUpTo r s m p (after r p (turn n l (Send records)))
  send_keeps p n l records s m k i =
      let t = turn n l (Send records) in
      either_way r (λ q. plain_state r q s k ≡ plain_state r p s k) p t refl (send_keeps_moved p (acting t) s k)

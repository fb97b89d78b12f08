-- What happened in a list of turns, turn by turn.
use Rattle.std.proofs.Common.{◌≡◌, ℕ, zero, suc, ◌+◌, ◌<◌, ◌≤◌, Bool, ◌⊎◌, List, [], ◌∷◌, ◌++◌, length, take, drop, Some, None, Option, sym, refl, ap, ◌∙◌, subst, inl, ⊎_elim, arith}
use Rattle.std.specs.List.{slice_get}
use Rattle.std.proofs.lemmas.List.{take_all, take-take, take-append-drop, take_more, get_or_push, length_push}
use Rattle.std.proofs.lemmas.Option.{gets}
use Rattle.plain.specs.Rules.{Rules}
use Rattle.plain.specs.Match.{Note, Plain, Turn, Lent, Move, Press, Send, played, known, acknowledged, note, turn, seat_number, answered, refusal, moved, after, run}
use Rattle.plain.specs.Turns.{Accepted, Presses, Sends}
use Rattle.plain.proofs.Steps.{Step, stays, presses, sends, takes, step, acting_seat, run_more}
use Rattle.plain.proofs.Growth.{Grown, run_grows}
use Rattle.plain.proofs.Changes.{after_accepted}

take_slice_get : (ts : List Turn) (i : ℕ) (t : Turn) → slice_get ts i ≡ Some t → take (i + 1) ts ≡ take i ts ++ t ∷ []
take_slice_get ts i t e = grind (arith, gets, take_more)

module _ {S I : Type 0} (r : Rules S I) where
  -- the match after the first i turns of a list
  unfoldable pub upto : List Turn → ℕ → Plain I
  upto ts i = run r (take i ts)

  pub upto_grows : (ts : List Turn) (i j : ℕ) → i ≤ j → Grown (upto ts i) (upto ts j)
  unfolding upto
  upto_grows ts i j h =
      let whole : take i ts ++ drop i (take j ts) ≡ take j ts = ap (λ xs. xs ++ drop i (take j ts)) (sym (take-take i j ts h)) ∙ take-append-drop i (take j ts) in
      subst (λ xs. Grown (run r (take i ts)) (run r xs)) whole (run_grows r (take i ts) (drop i (take j ts)))

  pub upto_all : (ts : List Turn) (i : ℕ) → length ts ≤ i → upto ts i ≡ run r ts
  unfolding upto
  upto_all ts i h = ap (run r) (take_all i ts h)

  pub upto_later : (ts : List Turn) (i : ℕ) → Grown (upto ts i) (run r ts)
  upto_later ts i = subst (λ q. Grown (upto ts i) q) (upto_all ts (i + length ts) (omega arith)) (upto_grows ts i (i + length ts) (omega arith))

  pub upto_next : (ts : List Turn) (i : ℕ) (t : Turn) → slice_get ts i ≡ Some t → upto ts (i + 1) ≡ after r (upto ts i) t
  unfolding upto
  upto_next ts i t e = ap (run r) (take_slice_get ts i t e) ∙ run_more r (take i ts) t

  -- a turn leaves a seat's P, or is its accepted press
  plays_or_not : {p q : Plain I} {t : Turn} → Step r p t q → (s : Bool) → (played q s ≡ played p s) ⊎ ((l : Lent) × (code : ℕ) × (t ≡ turn (seat_number s) l (Press code)) × (refusal r p t ≡ None))
  plays_or_not (stays why e) s = inl refl
  plays_or_not (presses t l code e n _ _ _) s = grind arith
  plays_or_not (sends t l records e n) s = inl (grind arith)
  plays_or_not (takes t l k records e n _ _) s = inl (grind arith)

  -- so a turn that is no accepted press of a seat leaves its P
  no_press : (ts : List Turn) (s : Bool) (i : ℕ) → (Presses r ts s i → ⊥) → played (upto ts (i + 1)) s ≡ played (upto ts i) s
  unfolding upto
  no_press ts s i none = at (slice_get ts i) refl
    where
      at : (o : Option Turn) → slice_get ts i ≡ o → played (upto ts (i + 1)) s ≡ played (upto ts i) s
      at None e =
          let past : length ts ≤ i = grind (arith, gets) in
          ap (λ q. played q s) (upto_all ts (i + 1) (omega arith) ∙ sym (upto_all ts i past))
      at (Some t) e =
          ap (λ q. played q s) (upto_next ts i t e)
          ∙ ⊎_elim
          (λ same. same)
          (λ press.
          absurd
          (none
          (record {
            code = press.1;
            lent = press.0;
            is = subst (λ u. Accepted r ts i u) press.2 (e, ap answered press.3);
          })))
          (plays_or_not (step r (upto ts i) t) s)

  no_presses : (ts : List Turn) (s : Bool) (i : ℕ) → ((j : ℕ) → Presses r ts s j → j < i) → (d : ℕ) → played (upto ts (i + d)) s ≡ played (upto ts i) s
  no_presses ts s i last zero = grind arith
  no_presses ts s i last (suc d) =
      let e : i + suc d ≡ i + d + 1 = omega arith in
      let here = no_press ts s (i + d) (λ press. omega (arith, last (i + d) press)) in
      let rest = no_presses ts s i last d in
      cc

  -- after its last accepted press a seat's P stays
  pub all_played : (ts : List Turn) (s : Bool) (i : ℕ) → ((j : ℕ) → Presses r ts s j → j < i) → played (run r ts) s ≡ played (upto ts i) s
  all_played ts s i last = ap (λ q. played q s) (sym (upto_all ts (i + length ts) (omega arith))) ∙ no_presses ts s i last (length ts)

  -- what an accepted turn of a seat left
  pub accepted_leaves : (ts : List Turn) (i : ℕ) (s : Bool) (l : Lent) (m : Move) → Accepted r ts i (turn (seat_number s) l m) → upto ts (i + 1) ≡ moved r (upto ts i) s m
  unfolding upto
  accepted_leaves ts i s l m a =
      let t = turn (seat_number s) l m in
      upto_next ts i t a.0 ∙ after_accepted r (upto ts i) t a.1 ∙ ap (λ u. moved r (upto ts i) u m) (acting_seat s)

  -- the note that a send made
  pub send_notes : (ts : List Turn) (s : Bool) (i k : ℕ) → Sends r ts s i k → let p = upto ts i in (k < length (upto ts (i + 1)).notes) × (note (upto ts (i + 1)) k ≡ record { sender = s; start = acknowledged p s; end = played p s; acknowledgement = known p s }) × (length p.notes ≡ k)
  unfolding upto
  send_notes ts s i k h =
      let p = upto ts i in
      let new : Note = record { sender = s; start = acknowledged p s; end = played p s; acknowledgement = known p s } in
      let left = accepted_leaves ts i s h.lent (Send h.records) h.is in
      let long = length_push p.notes new in
      let more = ap (λ (q : Plain I). length q.notes) left in
      let number : length p.notes ≡ k = sym h.numbered in
      (omega arith, ap (λ (q : Plain I). note q k) left ∙ get_or_push p.notes new _ k number, number)

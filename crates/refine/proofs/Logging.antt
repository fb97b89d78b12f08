-- The log as sends fill it, and the seats of a memory.
use Rattle.std.proofs.Common.{◌≡◌, ℕ, ◌+◌, ◌<◌, Bool, true, false, List, [], ◌∷◌, ◌++◌, length, get_or, take, drop, sym, subst, ⊎_elim, arith}
use Rattle.std.proofs.lemmas.List.{drop-take, drop_more, length_push, get_or_push, get_or_append_left}
use Rattle.std.proofs.lemmas.Bool.{cases_lt}
use Rattle.std.proofs.lemmas.Grind.{common_steps}
use Rattle.interface.specs.Games.{State}
use Rattle.plain.specs.Rules.{Rules}
use Rattle.plain.specs.Match.{Plain, other, note, noted}
use Rattle.plain.proofs.Growth.{Grown}
use Rattle.plain.proofs.Counting.{Sound}
use Rattle.seat.specs.Views.{View}
use Rattle.refine.specs.Memory.{Entry, Memory, seat, put_seat, with_log, no_entry}
use Rattle.refine.specs.Standing.{Sent, StandsAs}
use Rattle.refine.proofs.Datagrams.{sent_stays}
use Rattle.refine.proofs.Sending.{new_note}

-- what holds of a seat and of the other
pub both : (P : Bool → Type 0) (s : Bool) → P s → P (other s) → (t : Bool) → P t
both P s x y t = grind arith

module _ {I : Type 0} where
  pub own_seat : (m : Memory I) (s : Bool) (v : View I) → seat (put_seat m s v) s ≡ v
  own_seat m s v = grind arith

  pub other_seat : (m : Memory I) (s : Bool) (v : View I) → seat (put_seat m s v) (other s) ≡ seat m (other s)
  other_seat m s v = grind arith

  pub put_log : (m : Memory I) (s : Bool) (v : View I) → (put_seat m s v).log ≡ m.log
  put_log m s v = grind arith

  pub put_sent : (m : Memory I) (s : Bool) (v : View I) → (put_seat m s v).sent ≡ m.sent
  put_sent m s v = grind arith

  pub put_same : (m : Memory I) (s : Bool) → put_seat m s (seat m s) ≡ m
  put_same m s = grind arith

  pub seat_relogged : (m : Memory I) (log : List Entry) (s : Bool) → seat (with_log m log) s ≡ seat m s
  seat_relogged m log s = grind arith

  pub seat_kept : (m : Memory I) (log : List Entry) (sent : ℕ) (s : Bool) → seat (record { seat_0 = m.seat_0; seat_1 = m.seat_1; log = log; sent = sent }) s ≡ seat m s
  seat_kept m log sent s = grind arith

  -- memories with the same parts
  pub same_memory : (x y : Memory I) (s : Bool) → seat x s ≡ seat y s → seat x (other s) ≡ seat y (other s) → x.log ≡ y.log → x.sent ≡ y.sent → x ≡ y
  same_memory x y true a b c d i = record { seat_0 = b i; seat_1 = a i; log = c i; sent = d i }
  same_memory x y false a b c d i = record { seat_0 = a i; seat_1 = b i; log = c i; sent = d i }

-- what a call adds to the log: nothing, or the record that it has sent
pub joined_none : {X : Type 0} (log lent : List X) (sent after : ℕ) → after ≡ sent → log ++ drop sent (take after lent) ≡ log
joined_none log lent sent after e = grind (arith, common_steps)

pub joined_one : {X : Type 0} (log lent : List X) (sent after : ℕ) (d : X) → after ≡ sent + 1 → sent < length lent → log ++ drop sent (take after lent) ≡ log ++ get_or lent sent d ∷ []
joined_one log lent sent after d e inside = grind (arith, common_steps, drop-take, drop_more)

module _ {I : Type 0} (r : Rules State I) (match_number : ℕ) where
  -- the log of a match that stands
  pub record Logged (p : Plain I) (log : List Entry) (sent : ℕ) : Type 0 where
    pub all_sent : sent ≡ length p.notes
    pub all_logged : length log ≡ sent
    pub stands : (k : ℕ) → k < sent → Sent r match_number p (note p k) (get_or log k no_entry)

  pub logged : (p : Plain I) (m : Memory I) → StandsAs r match_number p m → Logged p m.log m.sent
  logged p m h = record { all_sent = h.all_sent; all_logged = h.all_logged; stands = h.log_stands }

  -- no send
  pub logged_same : (p q : Plain I) (log : List Entry) (sent : ℕ) → Sound p → Grown p q → length q.notes ≡ length p.notes → Logged p log sent → Logged q log sent
  logged_same p q log sent sound grown same h =
      let e = h.all_sent in
      record {
        all_sent = omega arith;
        all_logged = h.all_logged;
        stands = λ k low. sent_stays r match_number p q k _ sound grown (omega arith) (h.stands k low);
      }

  -- one more
  pub logged_more : (p : Plain I) (s : Bool) (log : List Entry) (sent : ℕ) (x : Entry) → Sound p → Grown p (noted p s) → Sent r match_number (noted p s) (new_note p s) x → Logged p log sent → Logged (noted p s) (log ++ x ∷ []) (sent + 1)
  logged_more p s log sent x sound grown new h =
      let e = h.all_sent in
      let l = h.all_logged in
      let more = length_push p.notes (new_note p s) in
      let more' = length_push log x in
      let none = no_entry in
      record {
        all_sent = omega arith;
        all_logged = omega arith;
        stands = λ k low.
            ⊎_elim
            (λ old. subst (λ y. Sent r match_number (noted p s) (note (noted p s) k) y) (sym (get_or_append_left log (x ∷ []) none k (omega arith))) (sent_stays r match_number p (noted p s) k _ sound grown (omega arith) (h.stands k old)))
            (λ past.
            let here : length p.notes ≡ k = omega arith in
            let there : length log ≡ k = omega arith in
            subst (λ y. Sent r match_number (noted p s) (note (noted p s) k) y) (sym (get_or_push log x none k there))
            (subst (λ n. Sent r match_number (noted p s) n x) (sym (get_or_push p.notes (new_note p s) _ k here)) new))
            (cases_lt k sent);
      }

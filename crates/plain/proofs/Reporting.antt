-- The state that a datagram reports on is the same where it was sent and where it is taken.
use Rattle.std.proofs.Common.{◌≡◌, ℕ, ◌+◌, ◌<◌, ◌≤◌, Bool, true, false, List, length, take, sym, ap, ◌∙◌, arith}
use Rattle.plain.specs.Rules.{Rules}
use Rattle.plain.specs.Match.{Note, Plain, Turn, other, played, known, confirmed, note, taken, run}
use Rattle.plain.specs.States.{plain_state, truth}
use Rattle.plain.specs.Turns.{Sends}
use Rattle.plain.specs.Laws.{Counts, report}
use Rattle.plain.proofs.Growth.{Grown}
use Rattle.plain.proofs.Counting.{Sound, Noted, sound}
use Rattle.plain.proofs.Walks.{known_is_true, truth_stays}
use Rattle.plain.proofs.Confirming.{both_played, confirmed_is_true}
use Rattle.plain.proofs.Happening.{upto, upto_later, send_notes}

module _ {I : Type 0} where
  knows_report : (p : Plain I) (s : Bool) (n : Note) → report n ≤ known (taken p s n) s
  knows_report p s n = grind arith

  -- both seats have played up to the frame that a note reports on
  report_played : (p : Plain I) (s : Bool) (n : Note) → ((t : Bool) → Counts p t) → Noted p s n → (report n ≤ played p false) × (report n ≤ played p true)
  report_played p s n h a = grind (arith, h s)

module _ {S I : Type 0} (r : Rules S I) where
  truth_taken : (p : Plain I) (s : Bool) (n : Note) (m : ℕ) → truth r (taken p s n) m ≡ truth r p m
  truth_taken p s n m = grind arith

  pub reports_agree : (ts : List Turn) (s : Bool) (i k : ℕ) → Sends r ts (other s) i k → let n = note (run r ts) k in (report n ≡ confirmed (run r (take i ts)) (other s)) × (plain_state r (taken (run r ts) s n) s (report n) ≡ plain_state r (run r (take i ts)) (other s) (report n))
  unfolding upto
  reports_agree ts s i k h =
      let p = run r ts in
      let u = run r (take i ts) in
      let n = note p k in
      let sent = send_notes r ts (other s) i k h in
      let made = (upto_later r ts (i + 1)).same_notes k sent.0 ∙ sent.1 in
      let was : report n ≡ confirmed u (other s) = ap report made in
      let low : report n ≤ confirmed u (other s) = omega arith in
      let both = both_played u (sound r (take i ts)).counts (other s) (report n) low in (
        was,
        known_is_true r (taken p s n) s (report n) (knows_report p s n)
            ∙ truth_taken p s n (report n)
            ∙ truth_stays r u p (upto_later r ts i) (report n) both.0 both.1
            ∙ sym (confirmed_is_true r u (other s) (report n) low),
      )

  -- the true state that a note reports on is fixed
  pub report_stays : (p q : Plain I) (k : ℕ) → Sound p → Grown p q → k < length p.notes → truth r q (report (note p k)) ≡ truth r p (report (note p k))
  report_stays p q k h g inside =
      let both = report_played p (note p k).sender (note p k) h.counts (h.notes k inside) in
      truth_stays r p q g (report (note p k)) both.0 both.1

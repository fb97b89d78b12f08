-- The checks of the log, and what a send does.
use Rattle.std.proofs.Common.{◌≡◌, ℕ, zero, suc, ◌+◌, ◌<◌, ◌≤◌, Bool, true, false, ◌&&◌, leb, List, [], ◌∷◌, length, get_or, set, Some, None, Ok, Err, Option, Result, sym, refl, ap, ◌∙◌, arith}
use mathlib.Core.Bool.{beq}
use Rattle.std.proofs.lemmas.Bool.{le-leb, lt-leb, cond-true, cond-false}
use Rattle.std.proofs.lemmas.List.{length-map, get_or-map, map-set, set-get_or}
use Rattle.interface.specs.Keepers.{Kept}
use Rattle.interface.specs.Answers.{accepted, number_of}
use Rattle.interface.specs.declared.answers.Refusal.{Refusal}
use Rattle.interface.specs.declared.answers.Refusal.TheVariants.{NoSuchDatagram, LogFull}
use Rattle.frames.specs.Queue.{whole}
use Rattle.plain.specs.Match.{other, unless_refused}
use Rattle.rollback.specs.Inputs.{Setting}
use Rattle.seat.specs.Views.{View}
use Rattle.seat.specs.Calls as calls
use Rattle.seat.proofs.Checks.{or_ok, or_err}
use Rattle.refine.specs.Setup.{Setup, setting_of, Lawful}
use Rattle.refine.specs.Memory.{Entry, SlotLists, Memory, seat, entry, datagram, no_entry, record_bytes}
use Rattle.refine.specs.Outcomes.{Sending, Taking, outcome, numbered, log_check}
use Rattle.refine.specs.Standing.{HasRoom}
use Rattle.refine.proofs.Results.{send_result, send_result_refused}
use Rattle.match_engine.specs.declared.log.Record.{Record}
use Rattle.match_engine.specs.declared.state.Match.{Match}
use Rattle.match_engine.specs.Log.{entry_of, entries, sent_entry}
use Rattle.match_engine.specs.Calls.{Does}
use Rattle.match_engine.proofs.Doing.{does, not_above, acting, waiting, lent_whole}
use Rattle.match_engine.specs.Meaning.{seat_view, memory}

-- every record has room for any datagram
pub all_roomy : (log : List Record) (k : ℕ) → k < length (entries log) → length (get_or (entries log) k no_entry).bytes ≡ record_bytes
all_roomy [] k low = absurd (omega arith)
all_roomy (r ∷ log) zero low = r.room
all_roomy (r ∷ log) (suc k) low = all_roomy log k (omega arith)

module _ {G K0 K1 H0 H1 I : Type 0} (kept_0 : K0 → Kept) (kept_1 : K1 → Kept) (m : Match G K0 K1 H0 H1) (n : ℕ) (lent rest : SlotLists I) (log : List Record) where
  abbrev b : Memory I
  b = memory kept_0 kept_1 m n lent rest (entries log)

  abbrev s : Bool
  s = numbered n

  long : length (entries log) ≡ length log
  long = length-map log entry_of

  pub roomy : HasRoom b Sending
  roomy = all_roomy log m.sent

  pub log_full : length log ≤ m.sent → log_check b s Sending ≡ Some LogFull
  log_full high = cond-true _ _ _ (le-leb (length (entries log)) m.sent (omega (arith, long)))

  log_free : m.sent < length log → log_check b s Sending ≡ None
  log_free low = cond-false _ _ _ (lt-leb (length (entries log)) m.sent (omega (arith, long)))

  entry_is : (k : ℕ) (d : Record) → k < length log → entry b k ≡ entry_of (get_or log k d)
  entry_is k d low = get_or-map entry_of log k d no_entry low

  -- 17: past the log, past what was sent, or sent by the taking seat
  pub past_log : (k : ℕ) → length log ≤ k → log_check b s (Taking k) ≡ Some NoSuchDatagram
  past_log k high = cond-true _ _ _ (le-leb (length (entries log)) k (omega (arith, long)))

  in_log : (k : ℕ) → k < length log → leb (length (entries log)) k ≡ false
  in_log k low = lt-leb (length (entries log)) k (omega (arith, long))

  pub past_sent : (k : ℕ) → k < length log → m.sent ≤ k → log_check b s (Taking k) ≡ Some NoSuchDatagram
  past_sent k low high = cond-false _ _ _ (in_log k low) ∙ cond-true _ _ _ (le-leb m.sent k high)

  pub own_sent : (k : ℕ) (d : Record) → k < length log → k < m.sent → beq (get_or log k d).sender s ≡ true → log_check b s (Taking k) ≡ Some NoSuchDatagram
  own_sent k d low low' own = cond-false _ _ _ (in_log k low) ∙ cond-false _ _ _ (lt-leb m.sent k low') ∙ cond-true _ _ _ (ap (λ (e : Entry). beq e.sender s) (entry_is k d low) ∙ own)

  pub others_sent : (k : ℕ) (d : Record) → k < length log → k < m.sent → beq (get_or log k d).sender s ≡ false → log_check b s (Taking k) ≡ None
  others_sent k d low low' own = cond-false _ _ _ (in_log k low) ∙ cond-false _ _ _ (lt-leb m.sent k low') ∙ cond-false _ _ _ (ap (λ (e : Entry). beq e.sender s) (entry_is k d low) ∙ own)

  pub datagram_is : (k : ℕ) (r : Record) → r ≡ get_or log k r → k < length log → datagram (entry_of r) ≡ datagram (entry b k)
  datagram_is k r is low = ap (λ z. datagram (entry_of z)) is ∙ ap datagram (sym (entry_is k r low))

  module _ (a : Setup I) (lawful : Lawful a) (low : n ≤ 1) (right : (whole lent.own && whole lent.others && whole lent.digests) ≡ true) (inside : m.sent < length log) (lent' : SlotLists I) (same : lent' ≡ lent) (d x : Record) (answer : Result (Unit {0}) Refusal) (told : answer ≡ calls.or_refused (calls.send_refusal (setting_of a s) (seat_view kept_0 kept_1 m s lent) (get_or log m.sent d).bytes) tt) (wrote : entry_of x ≡ sent_entry (setting_of a s) (seat_view kept_0 kept_1 m s lent) s (entry_of (get_or log m.sent d))) where
    abbrev g : Setting I
    g = setting_of a s

    abbrev v : View I
    v = seat_view kept_0 kept_1 m s lent

    abbrev e : Entry
    e = entry b m.sent

    e_is : e ≡ entry_of (get_or log m.sent d)
    e_is = entry_is m.sent d inside

    abbrev refusal : Option Refusal
    refusal = calls.send_refusal g (seat b s) e.bytes

    told' : answer ≡ calls.or_refused refusal tt
    told' = told ∙ ap (λ w. calls.or_refused (calls.send_refusal g w (get_or log m.sent d).bytes) tt) (sym (acting kept_0 kept_1 m n lent rest (entries log))) ∙ ap (λ (z : Entry). calls.or_refused (calls.send_refusal g (seat b s) z.bytes) tt) (sym e_is)

    wrote' : entry_of x ≡ sent_entry g (seat b s) s e
    wrote' = wrote ∙ ap (λ w. sent_entry g w s (entry_of (get_or log m.sent d))) (sym (acting kept_0 kept_1 m n lent rest (entries log))) ∙ ap (λ z. sent_entry g (seat b s) s z) (sym e_is)

    log' : entries (set log m.sent x) ≡ set (entries log) m.sent (entry_of x)
    log' = map-set entry_of log m.sent x

    kept_view : (k : ℕ) (t : Bool) → seat_view kept_0 kept_1 (record { first = m.first; second = m.second; sent = k }) t lent' ≡ seat_view kept_0 kept_1 m t lent
    kept_view k true = ap (seat_view kept_0 kept_1 m true) same
    kept_view k false = ap (seat_view kept_0 kept_1 m false) same

    abbrev left : ℕ → Memory I
    left k = memory kept_0 kept_1 (record { first = m.first; second = m.second; sent = k }) n lent' rest (entries (set log m.sent x))

    same_acting : (k : ℕ) → seat (left k) s ≡ seat b s
    same_acting k = acting kept_0 kept_1 (record { first = m.first; second = m.second; sent = k }) n lent' rest (entries (set log m.sent x)) ∙ kept_view k s ∙ sym (acting kept_0 kept_1 m n lent rest (entries log))

    same_waiting : (k : ℕ) → seat (left k) (other s) ≡ seat b (other s)
    same_waiting k = waiting kept_0 kept_1 (record { first = m.first; second = m.second; sent = k }) n lent' rest (entries (set log m.sent x)) ∙ at s ∙ sym (waiting kept_0 kept_1 m n lent rest (entries log))
      where
        at : (t : Bool) → seat_view kept_0 kept_1 (record { first = m.first; second = m.second; sent = k }) (other t) rest ≡ seat_view kept_0 kept_1 m (other t) rest
        at true = refl
        at false = refl

    entry' : (o : Option Refusal) → refusal ≡ o → entries (set log m.sent x) ≡ set (entries log) m.sent (unless_refused o e (record { sender = s; size = (calls.send_answer g (seat b s) e.bytes).1; bytes = calls.send_leaves g (seat b s) e.bytes }))
    entry' o is = log' ∙ ap (set (entries log) m.sent) (wrote' ∙ ap (λ p. unless_refused p e (record { sender = s; size = (calls.send_answer g (seat b s) e.bytes).1; bytes = calls.send_leaves g (seat b s) e.bytes })) is)

    pub send_does : (n' : ℕ) → answer ≡ Ok tt → n' ≡ accepted → Does a b n Sending (outcome (left (m.sent + 1)) n' 0)
    send_does n' ok number =
        let none = (or_ok refusal tt tt (sym ok ∙ told')).0 in
        does a lawful b n Sending _ roomy
        (ap (λ k. outcome (left (m.sent + 1)) k 0) number
        ∙ send_result a b n (not_above n low) (left (m.sent + 1)) (same_waiting (m.sent + 1)) (lent_whole kept_0 kept_1 m n lent rest (entries log) true right) (same_acting (m.sent + 1)) (log_free inside) none (entry' None none) refl)

    pub send_refuses : (why : Refusal) (n' : ℕ) → answer ≡ Err why → n' ≡ number_of why → Does a b n Sending (outcome (left m.sent) n' 0)
    send_refuses why n' err number =
        let some = or_err refusal tt why (sym err ∙ told') in
        does a lawful b n Sending _ roomy
        (send_result_refused a b n (not_above n low) (left m.sent) (same_waiting m.sent) (lent_whole kept_0 kept_1 m n lent rest (entries log) true right) (same_acting m.sent) (log_free inside) why n' some number (entry' (Some why) some ∙ set-get_or (entries log) m.sent no_entry) refl)

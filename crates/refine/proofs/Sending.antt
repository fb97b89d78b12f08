-- A send writes the datagram of its note.
use Rattle.std.proofs.Common.{◌≡◌, ℕ, ◌+◌, ◌-◌, ◌≤◌, Bool, true, false, List, ◌++◌, length, take, drop, None, unwrap_or, sym, refl, ap, ◌∙◌, arith}
use Rattle.std.proofs.lemmas.List.FromFn.{length-map-range_with_len}
use Rattle.std.proofs.lemmas.List.{take_at}
use Rattle.std.proofs.lemmas.Bool.{le-ltb}
use Rattle.std.proofs.lemmas.Bool.Decides.{nat_tests}
use Rattle.interface.specs.Answers.{accepted}
use Rattle.interface.specs.Digest.{digest_of}
use Rattle.interface.specs.Games.{State}
use Rattle.frames.specs.Queue.{held}
use Rattle.datagram.specs.Fields.{Fields}
use Rattle.datagram.specs.Layout.{bytes_of}
use Rattle.datagram.specs.Writing.{too_short}
use Rattle.datagram.proofs.Readings.{length_bytes}
use Rattle.plain.specs.Rules.{Rules}
use Rattle.plain.specs.Match.{Plain, Note, played, known, acknowledged, confirmed, seat_number, noted}
use Rattle.plain.specs.States.{true_input, plain_state}
use Rattle.plain.specs.Laws.{Counts}
use Rattle.plain.proofs.Confirming.{confirmed_is_true}
use Rattle.seat.specs.Views.{View, rightly_lent}
use Rattle.seat.specs.Calls.{to_send, send_refusal, send_answer, send_leaves}
use Rattle.refine.specs.Setup.{Setup, rules, setting_of}
use Rattle.refine.specs.Memory.{Entry}
use Rattle.refine.specs.Outcomes.{written}
use Rattle.refine.specs.Standing.{fields_of, Sent}
use Rattle.refine.proofs.Queues.{holds_reads}
use Rattle.refine.proofs.Seats.{stood, SlotsHold}
use Rattle.refine.proofs.Datagrams.{map_counting_same}

-- the note of a send
abbrev pub new_note : {I : Type 0} → Plain I → Bool → Note
new_note p s = record { sender = s; start = acknowledged p s; end = played p s; acknowledgement = known p s }

fields_noted : {I : Type 0} (r : Rules State I) (match_number : ℕ) (p : Plain I) (s : Bool) → fields_of r match_number (noted p s) (new_note p s) ≡ fields_of r match_number p (new_note p s)
fields_noted r match_number p s = grind arith

module _ {I : Type 0} (a : Setup I) (p : Plain I) (s : Bool) (match_number : ℕ) (own others : List I) (digests : List ℕ) (counts : (t : Bool) → Counts p t) (holds : SlotsHold (rules a) match_number p s own others digests) where
  abbrev r : Rules State I
  r = rules a

  abbrev v : View I
  v = stood r match_number p s own others digests

  abbrev f : Fields
  f = fields_of r match_number p (new_note p s)

  to_send_same : to_send (setting_of a s) v ≡ f
  to_send_same =
      let A = acknowledged p s in
      let P = played p s in
      let C = confirmed p s in
      let c = counts s in
      let codes = map_counting_same (λ k. a.code (unwrap_or (held own P k) a.idle)) (λ k. a.code (true_input r p s k)) A (P - A) (λ k low high. ap a.code (holds_reads own P k (true_input r p s) a.idle (omega arith) (omega arith) holds.own_hold)) in
      let digest = holds_reads digests (P + 1) C (λ n. digest_of (plain_state r p s n)) 0 (omega arith) (omega arith) holds.digests_hold ∙ ap digest_of (confirmed_is_true r p s C (omega arith)) in
      λ i. record { sender = seat_number s; match_number = match_number; start = A; codes = codes i; acknowledgement = known p s; report_frame = C; digest = digest i }

  pub stood_whole : rightly_lent v ≡ true
  stood_whole = grind (arith, nat_tests)

  short : length (bytes_of f) ≤ 53
  short = let few = length-map-range_with_len (λ k. a.code (true_input r p s k)) (acknowledged p s) (played p s - acknowledged p s) in omega (arith, counts s, length_bytes f)

  module _ (bytes : List ℕ) (room : 53 ≤ length bytes) where
    not_short : too_short (to_send (setting_of a s) v) bytes ≡ false
    not_short = ap (λ d. too_short d bytes) to_send_same ∙ le-ltb _ _ (omega (arith, short))

    pub send_passes : send_refusal (setting_of a s) v bytes ≡ None
    send_passes = grind (arith, stood_whole, not_short)

    pub send_answers : send_answer (setting_of a s) v bytes ≡ (accepted, length (bytes_of f))
    send_answers = grind (arith, send_passes, to_send_same)

    send_writes : send_leaves (setting_of a s) v bytes ≡ bytes_of f ++ drop (length (bytes_of f)) bytes
    send_writes = grind (arith, send_passes, not_short, to_send_same)

  -- the record that it writes
  pub written_sent : (e : Entry) → 53 ≤ length e.bytes → Sent r match_number (noted p s) (new_note p s) (written a v s e)
  written_sent e room =
      record {
        its_sender = refl;
        its_bytes =
            ap (λ (n : ℕ). take n (send_leaves (setting_of a s) v e.bytes)) (ap (λ (x : ℕ × ℕ). x.1) (send_answers e.bytes room))
            ∙ ap (take (length (bytes_of f))) (send_writes e.bytes room)
            ∙ take_at (bytes_of f) _ (length (bytes_of f)) refl
            ∙ ap bytes_of (sym (fields_noted r match_number p s));
      }
